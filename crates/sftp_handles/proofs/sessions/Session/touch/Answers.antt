use Rattle.sftp_handles.proofs.Imports.{sym, ◌∙◌, open_at, touched_through}
use Rattle.sftp_handles.proofs.ClashLaws.{touched-is, touched-unnamed}
use Rattle.sftp_handles.proofs.sessions.Session.touch.Goals as goal

pub returns-in-Some : goal.returns-in-Some
returns-in-Some g c =
    let handle = c.in-Some.handle.now in
    c.touch_by.ensures
    ∙ sym
    (touched-is c.args.self.now c.args.ask.now handle c.in-Some.ensures.asked
    ∙ (λ i.
    touched_through (c.in-Some.ensures.needed i) (c.in-Some.ensures.writes i) handle
    (open_at c.args.self.now.handles handle)))

pub returns-in-None : goal.returns-in-None
returns-in-None g c = sym (touched-unnamed c.args.self.now c.args.ask.now c.in-None.ensures.none)
