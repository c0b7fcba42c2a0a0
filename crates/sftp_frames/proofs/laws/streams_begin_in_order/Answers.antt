use Rattle.sftp_frames.proofs.Growing.{begins-unseen, begins-new, begins-late, begins-still, begins-other}
use Rattle.sftp_frames.proofs.laws.streams_begin_in_order.Goals as goal

pub returns-clause-new : goal.returns-clause-new
returns-clause-new c client frames bytes above = (begins-unseen client frames above, begins-new client frames bytes above)

pub returns-clause-late : goal.returns-clause-late
returns-clause-late c = begins-late

pub returns-clause-still : goal.returns-clause-still
returns-clause-still c = begins-still

pub returns-clause-other : goal.returns-clause-other
returns-clause-other c = begins-other
