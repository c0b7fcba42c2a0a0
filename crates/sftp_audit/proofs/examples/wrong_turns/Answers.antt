use Rattle.sftp_audit.proofs.worked.{unanswered, answered_twice}
use Rattle.sftp_audit.proofs.examples.wrong_turns.Goals as goal

pub returns : goal.returns
returns c = record { unanswered = unanswered; answered_twice = answered_twice }
