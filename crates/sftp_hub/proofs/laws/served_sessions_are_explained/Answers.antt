use Rattle.sftp_hub.proofs.Accounting.{explained}
use Rattle.sftp_hub.proofs.laws.served_sessions_are_explained.Goals as goal

pub returns : goal.returns
returns c = explained
