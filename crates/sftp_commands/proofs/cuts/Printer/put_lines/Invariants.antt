use Rattle.std.proofs.Common.{length}
use Rattle.sftp_commands.proofs.cuts.Printer.put_lines.Given as goal

abbrev pub decreases-lines : goal.decreases-lines
decreases-lines g l = length l.rest
