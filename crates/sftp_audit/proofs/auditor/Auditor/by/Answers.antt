-- A fresh auditor stands for no events.
use Rattle.sftp_audit.proofs.Imports.{refl}
use Rattle.sftp_audit.proofs.auditing.Standing.{stands_from_start}
use Rattle.sftp_audit.proofs.auditor.Auditor.by.Goals as goal

pub returns-clause-stands : goal.returns-clause-stands
returns-clause-stands g c =
    stands_from_start g.J.Judges.allowed (g.J.Judges.begun c.args.by c.args.tree) _ c.in_ok-judge.ensures c.new.ensures
    refl refl refl
