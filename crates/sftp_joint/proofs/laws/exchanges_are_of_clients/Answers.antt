use Rattle.sftp_joint.proofs.Joint.{exchanges-joint}
use Rattle.sftp_joint.proofs.laws.exchanges_are_of_clients.Goals as goal

pub returns : goal.returns
returns c = exchanges-joint
