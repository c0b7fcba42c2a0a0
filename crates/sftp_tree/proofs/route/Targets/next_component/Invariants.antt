use Rattle.sftp_tree.proofs.Imports.{◌≡◌, ◌++◌, length, left_of}
use Rattle.sftp_tree.proofs.route.Targets.next_component.Given as goal

abbrev pub invariant-loop-component : goal.invariant-loop-component
invariant-loop-component l =
    l.initial.self-inside.front.left ++ left_of l.initial.self-inside.behind.items ≡ l.self-inside.front.left ++ left_of l.self-inside.behind.items

abbrev pub decreases-loop-component : goal.decreases-loop-component
decreases-loop-component l = length l.self-inside.behind.items
