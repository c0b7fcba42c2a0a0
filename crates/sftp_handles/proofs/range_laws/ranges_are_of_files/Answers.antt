use Rattle.sftp_handles.proofs.RangeLaws.RangesKept.{range-touches}
use Rattle.sftp_handles.proofs.range_laws.ranges_are_of_files.Goals as goal

pub returns : goal.returns
returns c = range-touches
