-- The children to come decide.
use Rattle.sftp_tree.proofs.Imports.{◌≡◌, ◌+◌, flat, have_at_most}
use Rattle.sftp_tree.proofs.entries.directories.Dir.+reaches_at_most.Given as goal

abbrev pub decreases-reaches_at_most : goal.decreases-reaches_at_most
decreases-reaches_at_most l = l.room

abbrev pub invariant-loop-child : goal.invariant-loop-child
invariant-loop-child l =
    (l.room ≡ l.rest + 1) × (have_at_most (l.rest + 1) (flat l.child-iterator) ≡ have_at_most l.room l.self)
