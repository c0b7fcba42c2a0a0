use Rattle.sftp_handles.proofs.Imports.{◌∙◌, sym, ap, false, open_at}
use Rattle.sftp_handles.proofs.Judged.GivenNames.{has_none, readdir-ends, none-if_empty, none-listed}
use Rattle.sftp_handles.proofs.sessions.Session.has_given_all.Goals as goal

pub returns-in-Ok : goal.returns-in-Ok
returns-in-Ok g c =
    readdir-ends c.args.self.now c.args.handle.now c.is_empty.result c.in-Ok.ensures.kept
    (none-if_empty c.is_empty.result c.in-Ok.left.now c.is_empty.ensures.empty
    ∙ ap has_none (sym c.in-Ok.ensures.found))

pub returns-in-Err : goal.returns-in-Err
returns-in-Err g c =
    readdir-ends c.args.self.now c.args.handle.now false c.in-Err.ensures.kept
    (none-listed (open_at c.args.self.now.handles c.args.handle.now) c.in-Err.ensures.none)
