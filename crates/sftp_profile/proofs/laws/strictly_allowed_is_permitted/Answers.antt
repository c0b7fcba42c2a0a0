use Rattle.sftp_profile.proofs.Permissions.{strictly-permitted}
use Rattle.sftp_profile.proofs.laws.strictly_allowed_is_permitted.Goals as goal

pub returns : goal.returns
returns c profile s request reply end keeps stateless =
    strictly-permitted profile s request reply end keeps stateless
