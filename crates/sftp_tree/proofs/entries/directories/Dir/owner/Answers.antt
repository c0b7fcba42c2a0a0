use Rattle.sftp_tree.proofs.Imports.{[], ap, subst, sym, place_cmp, InOrder, get, Names, node_at}
use Rattle.sftp_tree.proofs.Nesting.{sorted-flat_of}
use Rattle.sftp_tree.proofs.entries.directories.Dir.owner.Goals as goal

pub returns-clause-owner : goal.returns-clause-owner
unfolding get
returns-clause-owner c = sym (ap (λ (names : Names). node_at names []) c.self.view_is)

pub returns-clause-ordered : goal.returns-clause-ordered
returns-clause-ordered c = subst (λ (names : Names). InOrder place_cmp names) c.self.view_is
    (sorted-flat_of c.self.inside.owner c.self.inside.children.entries c.self.invariant)
