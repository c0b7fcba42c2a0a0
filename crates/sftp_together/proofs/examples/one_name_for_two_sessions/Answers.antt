use Rattle.sftp_together.proofs.Worked.{taken-by_turns}
use Rattle.sftp_together.proofs.examples.one_name_for_two_sessions.Goals as goal

pub returns : goal.returns
returns c = taken-by_turns
