use Rattle.sftp_bare.proofs.BareReplies.{still-allowed}
use Rattle.sftp_bare.proofs.what_is_free_is_allowed.Goals as goal

pub returns : goal.returns
returns c = still-allowed
