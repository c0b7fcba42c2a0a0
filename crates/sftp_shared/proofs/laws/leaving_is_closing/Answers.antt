use Rattle.sftp_shared.proofs.Leaving.{leaving-closes}
use Rattle.sftp_shared.proofs.laws.leaving_is_closing.Goals as goal

pub returns : goal.returns
returns c = leaving-closes
