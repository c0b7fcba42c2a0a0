use Rattle.sftp_audit.proofs.worked.{other_text, two_names}
use Rattle.sftp_audit.proofs.examples.wrong_names.Goals as goal

pub returns : goal.returns
returns c = record { other_text = other_text; two_names = two_names }
