use Rattle.sftp_tree.proofs.Imports.{sym, ap, length}
use Rattle.sftp_tree.proofs.Nesting.Changes.{root-branch}
use Rattle.sftp_tree.proofs.entries.Entries.root.Goals as goal

pub invariant_of-result : goal.invariant_of-result
invariant_of-result c = (root-branch c.new.result c.args.owner c.new.ensures, sym (ap length c.new.ensures))
