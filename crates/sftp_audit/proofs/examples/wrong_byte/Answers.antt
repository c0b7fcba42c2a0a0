use Rattle.sftp_audit.proofs.worked.{other_byte}
use Rattle.sftp_audit.proofs.examples.wrong_byte.Goals as goal

pub returns : goal.returns
returns c = other_byte
