use Rattle.sftp_tests.proofs.StrictRuns.{fault-strict, fault-permitted}
use Rattle.sftp_tests.proofs.strict.strict_first_faults.Goals as goal

pub returns : goal.returns
returns c tree transcript error = (fault-strict tree transcript error, fault-permitted tree transcript error)
