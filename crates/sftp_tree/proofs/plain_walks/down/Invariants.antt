use Rattle.sftp_tree.proofs.Imports.{length}
use Rattle.sftp_tree.proofs.Walks.Plain.{Descends}
use Rattle.sftp_tree.proofs.plain_walks.down.Given as goal

abbrev pub invariant-descent : goal.invariant-descent
invariant-descent l = Descends l.fn.top l.fn.steps.left l.dir l.left.left

abbrev pub decreases-descent : goal.decreases-descent
decreases-descent l = length l.left.left
