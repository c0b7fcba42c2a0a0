-- The tree file of the end is that of the tree with which the audit ended.
use Rattle.sftp_audit.specs.Audit.{AccountsBy}
use Rattle.sftp_inferring.proofs.InferredLaws.{judged}
use Rattle.sftp_inferring.proofs.inferences.judge_by.Goals as goal

pub returns-in-Ok : goal.returns-in-Ok
returns-in-Ok g c =
    judged (AccountsBy g.J.Judges.allowed (g.J.Judges.begun c.args.by) g.J.Judges.closed) _ _ _ c.in-Ok.end
    c.outcome_of.result c.in-Ok.ensures c.outcome_of.ensures.requests c.outcome_of.ensures.tree
