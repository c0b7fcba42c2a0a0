use Rattle.sftp_profile.specs.Profiles.{strict}
use Rattle.sftp_tests.proofs.StrictRuns.{accounts-permitted, accounts-strict, strict-permits}
use Rattle.sftp_tests.proofs.strict.strict_accounts.Goals as goal

pub returns : goal.returns
returns c tree transcript start events end = (
  accounts-strict tree transcript start events end,
  accounts-permitted strict strict-permits tree transcript start events end,
)
