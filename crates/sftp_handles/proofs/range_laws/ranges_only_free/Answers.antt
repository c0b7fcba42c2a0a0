use Rattle.sftp_handles.proofs.RangeLaws.SteadyRanges.{range_clash-less}
use Rattle.sftp_handles.proofs.range_laws.ranges_only_free.Goals as goal

pub returns : goal.returns
returns c = range_clash-less
