use Rattle.sftp_handles.proofs.Imports.{◌≡◌, Some, sym, ap, subst, ◌∙◌, State, step, IsSpelledAnswer}
use Rattle.sftp_handles.proofs.Answered.{answered-step, refusal-step}
use Rattle.sftp_handles.proofs.TotalSteps.SaidReplies.{status-spelled}
use Rattle.sftp_handles.proofs.sessions.Session.answer_to.Goals as goal

pub returns-in-Ok-clause-answered : goal.returns-in-Ok-clause-answered
returns-in-Ok-clause-answered g c =
    answered-step c.args.self.now c.args.ask.now c.in-Ok.answer c.do_free.new.self c.in-Ok.ensures.done

pub returns-in-Err-Cause-clause-answered : goal.returns-in-Err-Cause-clause-answered
returns-in-Err-Cause-clause-answered g c =
    let s = c.args.self.now in
    subst (λ answer. step s c.args.ask.now answer ≡ Some c.do_free.new.self) (sym c.status.ensures.status)
    (refusal-step s c.args.ask.now c.in-Err-Cause.cause c.code.result
    (rw c.in-Err-Cause.field-0-is at c.in-Err-Cause.ensures.refused) c.code.ensures
    ∙ ap (λ (end : State). Some end) (sym c.in-Err-Cause.ensures.kept))

pub returns-in-Err-Cause-clause-spelled : goal.returns-in-Err-Cause-clause-spelled
returns-in-Err-Cause-clause-spelled g c =
    subst IsSpelledAnswer (sym c.status.ensures.status) (status-spelled c.code.result c.status.ensures.fits)
