use Rattle.sftp_tests.proofs.AuditedLaws.{finished, faulty, announced-finished, announced-faulty}
use Rattle.sftp_tests.proofs.audited.logs_account_for_runs.Goals as goal

pub returns : goal.returns
returns c = record {
  finished = finished;
  fault = faulty;
  announced_finished = announced-finished;
  announced_fault = announced-faulty;
}
