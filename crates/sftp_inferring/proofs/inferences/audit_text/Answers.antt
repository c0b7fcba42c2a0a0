-- The reader has read nothing yet, and the stream has all bytes of the tree file.
use Rattle.std.proofs.Common.{Some, refl, ap}
use Rattle.sftp_audit.specs.Audit.{AccountsBy}
use Rattle.sftp_verdicts.proofs.Fresh.{is_new}
use Rattle.sftp_inferring.proofs.InferredLaws.{has_run}
use Rattle.sftp_inferring.proofs.inferences.audit_text.Goals as goal

pub returns-in-Ok : goal.returns-in-Ok
returns-in-Ok g c =
    has_run (AccountsBy g.J.Judges.allowed (g.J.Judges.begun c.args.by) g.J.Judges.closed) _ _ _ _
    c.audit_streams_by-audited.result c.audit_streams_by-audited.ensures.accepted (ap Some c.stream.ensures)
    (is_new _ _ _ _ c.in-Ok.records (ap Some c.new.ensures) c.in-Ok.ensures.ok _ refl)
