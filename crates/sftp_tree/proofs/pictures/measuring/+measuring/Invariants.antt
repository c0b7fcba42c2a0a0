-- Each child has fewer entries than its directory.
use Rattle.sftp_tree.proofs.Imports.{◌≤◌, ◌*◌, ◌+◌, length, drop, branch, flat, AreBranches}
use Rattle.sftp_tree.proofs.pictures.measuring.+measuring.Given as goal

abbrev pub decreases-size_below : goal.decreases-size_below
decreases-size_below l = 2 * length l.dir.now

abbrev pub decreases-child_size : goal.decreases-child_size
decreases-child_size l = 2 * length (branch l.child.now) + 1

abbrev pub invariant-size_below-loop-name : goal.invariant-size_below-loop-name
invariant-size_below-loop-name l = record {
  branches : AreBranches l.name-iterator;
  few : length (flat l.name-iterator) ≤ length (drop 1 l.dir);
}
