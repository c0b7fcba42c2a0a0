use Rattle.sftp_handles.proofs.RangeLaws.RangesKept.{ranges-kept, other-ranges}
use Rattle.sftp_handles.proofs.range_laws.ranges_stay.Goals as goal

pub returns-clause-all : goal.returns-clause-all
returns-clause-all c = ranges-kept

pub returns-clause-others : goal.returns-clause-others
returns-clause-others c = other-ranges
