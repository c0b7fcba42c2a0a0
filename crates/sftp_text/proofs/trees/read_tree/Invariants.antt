use Rattle.std.proofs.Common.{◌≡◌, [], length}
use Rattle.sftp_text.specs.Lines.{said_lines}
use Rattle.sftp_text.specs.Trees.{tree_of_lines}
use Rattle.sftp_text.specs.Texts.{onto, lines_from}
use Rattle.sftp_text.proofs.trees.read_tree.Given as goal

abbrev pub invariant-lines : goal.invariant-lines
invariant-lines l =
    onto l.bytes.items (lines_from l.due (said_lines [] l.rest))
    ≡ onto l.fn.bytes.items (tree_of_lines (said_lines [] l.fn.text))

abbrev pub decreases-lines : goal.decreases-lines
decreases-lines l = length l.rest
