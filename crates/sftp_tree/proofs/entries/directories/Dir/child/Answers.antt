use Rattle.sftp_tree.proofs.Imports.{◌∷◌, ap, sym, ◌∙◌, is_at, name_cmp, get, Names, node_at, branch_of}
use Rattle.sftp_tree.proofs.Nesting.{get-flat, branch-found}
use Rattle.sftp_tree.proofs.entries.directories.Dir.child.Goals as goal

pub returns-clause-below : goal.returns-clause-below
unfolding get
returns-clause-below c rest = sym (ap (λ (names : Names). node_at names (c.args.name.now ∷ rest)) c.self.view_is)
    ∙ get-flat c.self.inside.owner c.self.inside.children.entries c.args.name.now rest c.self.invariant.0
    ∙ sym (ap (λ o. node_at (branch_of o) rest) c.get.ensures.value)

pub returns-clause-branch : goal.returns-clause-branch
returns-clause-branch c =
    branch-found c.self.inside.children.entries (is_at (name_cmp c.args.name.now)) c.get.result c.self.invariant.1
    c.get.ensures.value
