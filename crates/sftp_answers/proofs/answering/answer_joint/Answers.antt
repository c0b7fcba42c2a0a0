use Rattle.std.proofs.Common.{sym, ◌∙◌}
use Rattle.std.proofs.lemmas.Result.{IfOk-weaker}
use Rattle.sftp_handles.specs.Allowed.{Allowed}
use Rattle.sftp_answers.proofs.Answers.{plain_joint, plain_named}
use Rattle.sftp_answers.proofs.answering.answer_joint.Goals as goal

pub returns-else-is_opening-clause-allowed : goal.returns-else-is_opening-clause-allowed
returns-else-is_opening-clause-allowed c =
    IfOk-weaker c.answer.result
    (λ reply. Allowed c.args.session.now c.args.joint.now reply c.answer.new.self) _
    (λ reply allowed.
    plain_joint c.args.client c.args.session.now c.answer.new.self c.args.joint.now reply allowed
    (sym c.is_opening.ensures ∙ c.if-is_opening.false))
    c.answer.ensures.allowed

pub returns-else-is_opening-clause-named : goal.returns-else-is_opening-clause-named
returns-else-is_opening-clause-named c =
    IfOk-weaker c.answer.result
    (λ reply. Allowed c.args.session.now c.args.joint.now reply c.answer.new.self) _
    (λ reply allowed.
    plain_named c.args.session.now c.answer.new.self c.args.joint.now reply c.args.number allowed
    (sym c.is_opening.ensures ∙ c.if-is_opening.false))
    c.answer.ensures.allowed
