use Rattle.std.proofs.Common.{length}
use Rattle.sftp_commands.proofs.cuts.Printer.put_texts.Given as goal

abbrev pub decreases-texts : goal.decreases-texts
decreases-texts g l = length l.rest
