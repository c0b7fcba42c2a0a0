use Rattle.sftp_frames.proofs.Growing.{stream-more, ended-more, in-time-more}
use Rattle.sftp_frames.proofs.laws.streams_grow_by_frames.Goals as goal

pub returns-clause-bytes : goal.returns-clause-bytes
returns-clause-bytes c = stream-more

pub returns-clause-ends : goal.returns-clause-ends
returns-clause-ends c = ended-more

pub returns-clause-in_time : goal.returns-clause-in_time
returns-clause-in_time c = in-time-more
