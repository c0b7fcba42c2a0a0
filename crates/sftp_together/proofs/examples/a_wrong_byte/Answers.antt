use Rattle.sftp_together.proofs.Worked.{wrong-byte}
use Rattle.sftp_together.proofs.examples.a_wrong_byte.Goals as goal

pub returns : goal.returns
returns c = wrong-byte
