use Rattle.std.proofs.Common.{◌≡◌, length}
use Rattle.sftp_text.specs.Lines.{is_blank}
use Rattle.sftp_text.proofs.lines.is_blank.Given as goal

abbrev pub invariant-bytes : goal.invariant-bytes
invariant-bytes l = is_blank l.left ≡ is_blank l.fn.line

abbrev pub decreases-bytes : goal.decreases-bytes
decreases-bytes l = length l.left
