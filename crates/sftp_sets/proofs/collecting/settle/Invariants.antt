-- The exchanges so far were moved.
use Rattle.std.proofs.Common.{length}
use Rattle.sftp_sets.specs.Collecting.{AreMoved}
use Rattle.sftp_sets.proofs.collecting.settle.Given as goal

abbrev pub decreases-settle : goal.decreases-settle
decreases-settle l = length l.kept.items

abbrev pub invariant-settle : goal.invariant-settle
invariant-settle l = AreMoved l.initial.done.items l.initial.kept.items l.done.items l.kept.items
