use Rattle.sftp_frames.proofs.FrameTexts.{one}
use Rattle.sftp_frames.proofs.laws.fronts_are_apart.Goals as goal

pub returns-clause-one : goal.returns-clause-one
returns-clause-one c = one
