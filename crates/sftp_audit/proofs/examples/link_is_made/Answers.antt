use Rattle.sftp_audit.proofs.worked.{made}
use Rattle.sftp_audit.proofs.examples.link_is_made.Goals as goal

pub returns : goal.returns
returns c = made
