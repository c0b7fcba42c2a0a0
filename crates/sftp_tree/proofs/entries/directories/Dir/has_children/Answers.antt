use Rattle.sftp_tree.proofs.Imports.{[], ap, ◌∙◌, Names, has_entries}
use Rattle.sftp_tree.proofs.Nesting.{has_entries-children}
use Rattle.sftp_tree.proofs.entries.directories.Dir.has_children.Goals as goal

pub returns : goal.returns
returns c = has_entries-children c.self.inside.owner c.self.inside.children.entries c.is_empty.result c.self.invariant
    c.is_empty.ensures.0 c.is_empty.ensures.1 ∙ ap (λ (names : Names). has_entries names []) c.self.view_is
