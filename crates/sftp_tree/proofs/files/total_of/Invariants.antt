-- The bytes so far, and those of the files that are left.
use Rattle.sftp_tree.proofs.Imports.{◌≡◌, ◌+◌, contents}
use Rattle.sftp_tree.specs.Tree.{total_of as bytes_of}
use Rattle.sftp_tree.proofs.Totals.{left_of}
use Rattle.sftp_tree.proofs.files.total_of.Given as goal

abbrev pub invariant-loop-stored : goal.invariant-loop-stored
invariant-loop-stored l = l.total + left_of l.stored-iterator ≡ bytes_of (contents l.files.entries)
