-- The items so far, and those of the children to come, are all; the children to come are nodes of the tree.
use Rattle.sftp_tree.proofs.Imports.{◌≡◌, ◌++◌, map, filter_map, AllByRecursion, IsNode, shown_child, listing, entry_of}
use Rattle.sftp_tree.proofs.Imports.{AreBranches, nodes_of}
use Rattle.sftp_tree.proofs.trees.Tree.items_below.Given as goal

abbrev pub invariant-loop-name : goal.invariant-loop-name
invariant-loop-name l = record {
  listed : map entry_of l.items.items ++ filter_map (shown_child l.self) (nodes_of l.name-iterator)
      ≡ listing l.self l.found.place;
  nodes : AllByRecursion (λ e. IsNode l.self.files e.1) (nodes_of l.name-iterator);
  branches : AreBranches l.name-iterator;
}
