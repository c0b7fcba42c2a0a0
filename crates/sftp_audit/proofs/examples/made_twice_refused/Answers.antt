use Rattle.sftp_audit.proofs.worked.{taken, not_absent}
use Rattle.sftp_audit.proofs.examples.made_twice_refused.Goals as goal

pub returns : goal.returns
returns c = record { taken = taken; not_absent = not_absent }
