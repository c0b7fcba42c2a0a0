use Rattle.sftp_audit.proofs.worked.{not_there}
use Rattle.sftp_audit.proofs.examples.nothing_to_open.Goals as goal

pub returns : goal.returns
returns c = not_there
