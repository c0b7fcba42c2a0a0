use Rattle.sftp_tree.proofs.Imports.{asked}
use Rattle.sftp_tree.specs.Plans.{placed}
use Rattle.sftp_tree.proofs.CauseLaws.{led-is}
use Rattle.sftp_tree.proofs.trees.Tree.ends.Goals as goal

pub returns-clause-old : goal.returns-clause-old
returns-clause-old c =
    led-is c.args.self.now (asked c.args.ask) c.follows.result c.path.result.now (placed c.in_ok-old.old) c.path.ensures c.follows.ensures c.in_ok-old.ensures.reached
