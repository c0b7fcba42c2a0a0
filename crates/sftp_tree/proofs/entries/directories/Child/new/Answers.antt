use Rattle.sftp_tree.proofs.Nesting.Changes.{root-branch}
use Rattle.sftp_tree.proofs.entries.directories.Child.new.Goals as goal

pub returns-in-Dir-clause-whole : goal.returns-in-Dir-clause-whole
returns-in-Dir-clause-whole c = root-branch c.new.result c.in-Dir.owner c.new.ensures
