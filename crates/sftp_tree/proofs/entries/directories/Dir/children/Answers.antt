use Rattle.sftp_tree.proofs.Imports.{[], ap, subst, ◌∙◌, place_cmp, InOrder, Names, children, nodes_of}
use Rattle.sftp_tree.proofs.Nesting.{sorted-flat_of}
use Rattle.sftp_tree.proofs.Nesting.NodesBelow.{nodes-children}
use Rattle.sftp_tree.proofs.entries.directories.Dir.children.Goals as goal

pub returns-clause-nodes : goal.returns-clause-nodes
returns-clause-nodes c = ap nodes_of c.iter.ensures.rest
    ∙ nodes-children c.self.inside.owner c.self.inside.children.entries c.self.invariant
    ∙ ap (λ (names : Names). children names []) c.self.view_is

pub returns-clause-ordered : goal.returns-clause-ordered
returns-clause-ordered c = subst (λ (names : Names). InOrder place_cmp names) c.self.view_is
    (sorted-flat_of c.self.inside.owner c.self.inside.children.entries c.self.invariant)
