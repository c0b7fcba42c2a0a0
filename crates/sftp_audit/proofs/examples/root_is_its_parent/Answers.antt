use Rattle.sftp_audit.proofs.worked.{above}
use Rattle.sftp_audit.proofs.examples.root_is_its_parent.Goals as goal

pub returns : goal.returns
returns c = above
