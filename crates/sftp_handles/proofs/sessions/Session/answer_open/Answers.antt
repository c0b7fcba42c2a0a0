use Rattle.sftp_handles.proofs.Imports.{sym, subst, Answer, IsAnswered}
use Rattle.sftp_handles.proofs.Answered.NameReplies.{handle-answered}
use Rattle.sftp_handles.proofs.sessions.Session.answer_open.Goals as goal

pub returns-in-Ok-clause-done : goal.returns-in-Ok-clause-done
returns-in-Ok-clause-done g c =
    let s = c.args.self.now in
    let end = c.open_for.new.self in
    subst (λ (answer : Answer). IsAnswered s c.args.ask.now answer end) (sym c.new_handle.ensures)
    (handle-answered s c.args.ask.now c.in-Ok.name.items end c.requires c.in-Ok.ensures.done c.in-Ok.ensures.bytes)
