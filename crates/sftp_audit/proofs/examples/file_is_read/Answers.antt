use Rattle.sftp_audit.proofs.worked.{in_parts}
use Rattle.sftp_audit.proofs.examples.file_is_read.Goals as goal

pub returns : goal.returns
returns c = in_parts
