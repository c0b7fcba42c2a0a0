use Rattle.sftp_tree.proofs.Imports.{◌≡◌, ◌++◌, length, Place, node_at}
use Rattle.sftp_tree.proofs.entries.directories.Dir.at.Given as goal

abbrev pub invariant-loop-name : goal.invariant-loop-name
invariant-loop-name l = (node_at l.dir l.left ≡ node_at l.fn.self l.fn.names)
    × ((rest : Place) → node_at l.dir (l.left ++ rest) ≡ node_at l.fn.self (l.fn.names ++ rest))

abbrev pub decreases-loop-name : goal.decreases-loop-name
decreases-loop-name l = length l.left
