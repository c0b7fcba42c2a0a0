use Rattle.sftp_handles.specs.Allowed.{Allowed}
use Rattle.sftp_joint.proofs.Deeds.{run-joint}
use Rattle.sftp_shared.specs.Sharing.{left_by}
use Rattle.sftp_shared.proofs.laws.runs_without_leaves_are_joint.Goals as goal

pub returns : goal.returns
returns c s end moments run = run-joint Allowed left_by moments s end run
