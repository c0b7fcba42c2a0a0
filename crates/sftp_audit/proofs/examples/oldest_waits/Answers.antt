use Rattle.sftp_audit.proofs.worked.Refused.{settled, unanswered, not_the_first}
use Rattle.sftp_audit.proofs.examples.oldest_waits.Goals as goal

pub returns : goal.returns
returns c = record { settled = settled; unanswered = unanswered; not_the_first = not_the_first }
