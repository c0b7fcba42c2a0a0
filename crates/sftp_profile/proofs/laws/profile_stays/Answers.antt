use Rattle.sftp_profile.proofs.Permissions.{permitted-profile}
use Rattle.sftp_profile.proofs.laws.profile_stays.Goals as goal

pub returns : goal.returns
returns c s request reply end = permitted-profile s request reply end
