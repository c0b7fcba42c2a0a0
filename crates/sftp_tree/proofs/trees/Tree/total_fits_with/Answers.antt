-- A file has no more bytes than all.
use Rattle.sftp_tree.proofs.Imports.{arith}
use Rattle.sftp_tree.proofs.Totals.{part-of_total}
use Rattle.sftp_tree.proofs.trees.Tree.total_fits_with.Goals as goal

pub overflow_sub-others : goal.overflow_sub-others
overflow_sub-others c =
    omega (arith, part-of_total c.args.self.now.files c.args.number, c.total.ensures, c.length_of.ensures)
