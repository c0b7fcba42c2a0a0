use Rattle.sftp_profile.proofs.Permissions.{strictly-permitted}
use Rattle.sftp_tests.proofs.StrictRuns.{accounts-permitted}
use Rattle.sftp_tests.proofs.strict.strict_accounts_stay.Goals as goal

pub returns : goal.returns
returns c profile tree transcript start events end keeps stateless =
    accounts-permitted profile (λ s request reply end. strictly-permitted profile s request reply end keeps stateless)
    tree transcript start events end
