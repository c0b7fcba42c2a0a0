use Rattle.sftp_audit.proofs.worked.{other_size, no_permissions}
use Rattle.sftp_audit.proofs.examples.wrong_attributes.Goals as goal

pub returns : goal.returns
returns c = record { other_size = other_size; no_permissions = no_permissions }
