use Rattle.sftp_joint.proofs.Joint.{matching-clients, matching-joint}
use Rattle.sftp_joint.proofs.laws.turns_are_of_clients.Goals as goal

pub returns : goal.returns
returns c = λ moments ids. (matching-clients moments ids, matching-joint moments ids)
