-- Some children are written, and the others are to come. Each child has fewer entries than its directory.
use Rattle.sftp_tree.proofs.Imports.{◌≡◌, ◌≤◌, ◌*◌, ◌+◌, length, drop, branch, flat, AreBranches}
use Rattle.sftp_tree.proofs.TreeFiles.Branches.{state_of, IsLeft}
use Rattle.sftp_tree.proofs.pictures.branches.+branches.Given as goal

abbrev pub decreases-send_below : goal.decreases-send_below
decreases-send_below g l = 2 * length l.dir.now

abbrev pub decreases-send_child : goal.decreases-send_child
decreases-send_child g l = 2 * length (branch l.child.now) + 1

abbrev pub invariant-send_below-loop-name : goal.invariant-send_below-loop-name
invariant-send_below-loop-name g l = record {
  left : IsLeft l.tree.files l.times (drop 1 l.dir) (state_of l.initial.at (g.L.Sink.written l.initial.sink))
      (state_of l.at (g.L.Sink.written l.sink)) (flat l.name-iterator);
  none_failed : g.L.Sink.failures l.sink ≡ g.L.Sink.failures l.initial.sink;
  end : l.end ≡ length l.at.path.items;
  branches : AreBranches l.name-iterator;
  few : length (flat l.name-iterator) ≤ length (drop 1 l.dir);
}
