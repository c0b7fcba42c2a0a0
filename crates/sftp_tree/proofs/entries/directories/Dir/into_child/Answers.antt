-- A directory's table is in order and starts at the directory.
use Rattle.sftp_tree.proofs.Imports.{subst, IsBranch}
use Rattle.sftp_tree.specs.declared.entries.directories.Child.TheVariants.{Dir}
use Rattle.sftp_tree.proofs.Nesting.{dir_branch}
use Rattle.sftp_tree.proofs.entries.directories.Dir.into_child.Goals as goal

pub returns-clause-branch : goal.returns-clause-branch
returns-clause-branch c = subst (λ names. IsBranch (Dir names)) c.self.view_is
    (dir_branch c.self.inside.owner c.self.inside.children.entries c.self.invariant)
