use Rattle.sftp_audit.proofs.Imports.{Allowed}
use Rattle.sftp_handles.proofs.Judged.{allowed-one_end}
use Rattle.sftp_audit.proofs.steps.{explained-one_end}
use Rattle.sftp_audit.proofs.laws.one_end.Goals as goal

pub returns : goal.returns
returns c = explained-one_end Allowed allowed-one_end
