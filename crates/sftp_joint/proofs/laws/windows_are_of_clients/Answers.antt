use Rattle.sftp_joint.proofs.Joint.{window-clients}
use Rattle.sftp_joint.proofs.laws.windows_are_of_clients.Goals as goal

pub returns : goal.returns
returns c = λ moments ids inside client. window-clients moments client ids inside
