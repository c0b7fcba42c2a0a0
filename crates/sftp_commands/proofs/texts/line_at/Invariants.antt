use Rattle.std.proofs.Common.{length}
use Rattle.sftp_commands.proofs.texts.line_at.Given as goal

abbrev pub decreases-lines : goal.decreases-lines
decreases-lines l = length l.rest
