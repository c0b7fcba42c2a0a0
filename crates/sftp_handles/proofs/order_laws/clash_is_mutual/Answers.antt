use Rattle.sftp_handles.proofs.ClashLaws.{clash-mutual}
use Rattle.sftp_handles.proofs.order_laws.clash_is_mutual.Goals as goal

pub returns : goal.returns
returns c = clash-mutual
