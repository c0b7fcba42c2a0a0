use Rattle.sftp_handles.specs.Allowed.{Allowed}
use Rattle.sftp_joint.proofs.Joint.{together, apart}
use Rattle.sftp_shared.proofs.laws.joint_sessions_are_explained_together.Goals as goal

pub returns-clause-together : goal.returns-clause-together
returns-clause-together c start end moments ids joint = together Allowed start moments end ids joint

pub returns-clause-joint : goal.returns-clause-joint
returns-clause-joint c start end moments ids sessions inside = apart Allowed start moments end ids sessions inside
