use Rattle.sftp_handles.proofs.Imports.{sym, subst, IsAnswered}
use Rattle.sftp_handles.proofs.Answered.{answered-ok}
use Rattle.sftp_handles.proofs.sessions.Session.answer_change.Goals as goal

pub returns-in-Ok-clause-done : goal.returns-in-Ok-clause-done
returns-in-Ok-clause-done g c =
    let s = c.args.self.now in
    subst (λ answer. IsAnswered s c.args.ask.now answer c.do_ok.new.self) (sym c.status.ensures.status)
    (answered-ok s c.args.ask.now c.do_ok.new.self c.in-Ok.ensures.done)
