use Rattle.std.proofs.Common.{length}
use Rattle.sftp_text.proofs.TextLaws.{IsSearched}
use Rattle.sftp_text.proofs.lines.line_length.Given as goal

abbrev pub invariant-bytes : goal.invariant-bytes
invariant-bytes l = IsSearched l.fn.text l.left

abbrev pub decreases-bytes : goal.decreases-bytes
decreases-bytes l = length l.left
