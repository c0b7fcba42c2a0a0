use Rattle.std.proofs.Common.{◌≡◌}
use Rattle.sftp_text.specs.Formats.{repeat}
use Rattle.sftp_text.specs.Trees.{entry_line}
use Rattle.sftp_text.proofs.trees.put_entries.Given as goal

abbrev pub invariant-entries : goal.invariant-entries
invariant-entries l =
    repeat (entry_line l.is_wide).show l.most l.text.items l.bytes.now
    ≡ repeat (entry_line l.is_wide).show l.initial.most l.fn.text.items l.fn.bytes.now

abbrev pub decreases-entries : goal.decreases-entries
decreases-entries l = l.most
