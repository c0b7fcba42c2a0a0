-- The root is a name more.
use Rattle.sftp_tree.proofs.Imports.{length, ap, arith}
use Rattle.sftp_tree.proofs.TreeFiles.Files.{names_count}
use Rattle.sftp_tree.proofs.trees.Tree.entry_count.Goals as goal

pub overflow_sub-result : goal.overflow_sub-result
overflow_sub-result c = omega (arith, c.len.ensures, ap length c.names.ensures.names, (names_count c.args.self.now c.names.ensures.kept).0)

pub overflow_cast-result : goal.overflow_cast-result
overflow_cast-result c = omega (arith, c.len.ensures, ap length c.names.ensures.names, (names_count c.args.self.now c.names.ensures.kept).1)

pub returns : goal.returns
returns c = omega (arith, c.len.ensures, ap length c.names.ensures.names, (names_count c.args.self.now c.names.ensures.kept).0)
