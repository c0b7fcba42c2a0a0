use Rattle.std.proofs.Common.{◌≡◌, codes}
use Rattle.sftp_text.specs.Formats.{repeat, ◌then◌, word}
use Rattle.sftp_text.specs.Fields.{pair}
use Rattle.sftp_text.proofs.lists.read_pairs.Given as goal

abbrev pub invariant-pairs : goal.invariant-pairs
invariant-pairs l =
    repeat (word (codes " ") then pair).read l.most l.bytes.items l.line.now
    ≡ repeat (word (codes " ") then pair).read l.initial.most l.fn.bytes.items l.fn.line.now

abbrev pub decreases-pairs : goal.decreases-pairs
decreases-pairs l = l.most
