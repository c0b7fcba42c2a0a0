use Rattle.sftp_handles.proofs.RangeLaws.SteadyRanges.{range_clash-mutual}
use Rattle.sftp_handles.proofs.range_laws.range_clash_is_mutual.Goals as goal

pub returns : goal.returns
returns c = range_clash-mutual
