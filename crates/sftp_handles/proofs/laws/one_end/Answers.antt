use Rattle.sftp_handles.proofs.Judged.{allowed-one_end}
use Rattle.sftp_handles.proofs.laws.one_end.Goals as goal

pub returns : goal.returns
returns c = allowed-one_end
