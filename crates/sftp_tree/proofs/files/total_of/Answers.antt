-- All are left at the start.
use Rattle.sftp_tree.proofs.Imports.{ap, arith}
use Rattle.sftp_tree.proofs.Totals.{left_of, left-all}
use Rattle.sftp_tree.proofs.files.total_of.Goals as goal

pub loop-stored-init : goal.loop-stored-init
loop-stored-init c = omega (
  arith,
  ap left_of c.into_iter-stored-iterator.ensures.into_iter_gives,
  ap left_of c.values-stored-items.ensures.rest,
  left-all c.args.files.now.entries,
)
