use Rattle.std.proofs.Common.{length}
use Rattle.sftp_commands.proofs.texts.first_line.Given as goal

abbrev pub decreases-lines : goal.decreases-lines
decreases-lines l = length l.rest
