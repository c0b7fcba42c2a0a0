use Rattle.std.proofs.Common.{◌≡◌, codes}
use Rattle.sftp_text.specs.Formats.{repeat, ◌then◌, word}
use Rattle.sftp_text.specs.Fields.{pair}
use Rattle.sftp_text.proofs.lists.put_pairs.Given as goal

abbrev pub invariant-pairs : goal.invariant-pairs
invariant-pairs l =
    repeat (word (codes " ") then pair).show l.most l.text.items l.bytes.now
    ≡ repeat (word (codes " ") then pair).show l.initial.most l.fn.text.items l.fn.bytes.now

abbrev pub decreases-pairs : goal.decreases-pairs
decreases-pairs l = l.most
