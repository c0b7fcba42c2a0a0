use Rattle.sftp_tree.proofs.Imports.{arith}
use Rattle.sftp_tree.proofs.Requests.{bytes-are}
use Rattle.sftp_tree.proofs.trees.Tree.link_to.Goals as goal

pub returns-clause-bytes : goal.returns-clause-bytes
returns-clause-bytes c = bytes-are c.args.target.now (λ i. omega (arith, c.type_inv.target i))
