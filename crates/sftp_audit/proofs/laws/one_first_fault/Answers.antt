use Rattle.sftp_audit.proofs.Imports.{Allowed, started}
use Rattle.sftp_handles.proofs.Judged.{allowed-one_end}
use Rattle.sftp_audit.proofs.streams.FirstFaults.{one_first_fault}
use Rattle.sftp_audit.proofs.laws.one_first_fault.Goals as goal

pub returns : goal.returns
returns c = one_first_fault Allowed allowed-one_end started
