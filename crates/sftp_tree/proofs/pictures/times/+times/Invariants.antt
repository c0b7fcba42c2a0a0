-- Some children were asked for, and the others are to come. Each child has fewer entries than its directory.
use Rattle.sftp_tree.proofs.Imports.{◌≡◌, ◌≤◌, ◌*◌, ◌+◌, length, drop, branch, flat, AreBranches}
use Rattle.sftp_tree.proofs.TreeFiles.Times.{here_of, IsLeftToAsk}
use Rattle.sftp_tree.proofs.pictures.times.+times.Given as goal

abbrev pub decreases-ask_below : goal.decreases-ask_below
decreases-ask_below g l = 2 * length l.dir.now

abbrev pub decreases-ask_child : goal.decreases-ask_child
decreases-ask_child g l = 2 * length (branch l.child.now) + 1

abbrev pub invariant-ask_below-loop-name : goal.invariant-ask_below-loop-name
invariant-ask_below-loop-name g l = record {
  left : IsLeftToAsk (g.K.HasTimes.of_file l.keeper) (g.K.HasTimes.of_directory l.keeper) (drop 1 l.dir)
      (here_of l.initial.at l.initial.times.items) (here_of l.at l.times.items) (flat l.name-iterator);
  end : l.end ≡ length l.at.path.items;
  branches : AreBranches l.name-iterator;
  few : length (flat l.name-iterator) ≤ length (drop 1 l.dir);
}
