use Rattle.sftp_audit.proofs.worked.{other_reply}
use Rattle.sftp_audit.proofs.examples.other_kinds.Goals as goal

pub returns : goal.returns
returns c = other_reply
