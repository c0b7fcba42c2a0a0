use Rattle.sftp_audit.proofs.auditing.{ledger_of-recorded}
use Rattle.sftp_audit.proofs.laws.exchanges_are_recorded.Goals as goal

pub returns : goal.returns
returns c = ledger_of-recorded
