use Rattle.sftp_profile.proofs.Permissions.{strict-both}
use Rattle.sftp_profile.proofs.laws.strict_is_allowed.Goals as goal

pub returns : goal.returns
returns c s request reply end = strict-both s request reply end
