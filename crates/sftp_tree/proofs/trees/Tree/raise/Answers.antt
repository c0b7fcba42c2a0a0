-- Higher limits allow what the tree has.
use Rattle.sftp_tree.proofs.Imports.{◌≡◌, ◌∙◌, ap, TreeLimits, raised, seen}
use Rattle.sftp_tree.proofs.KeptTrees.Counts.{raised-kept}
use Rattle.sftp_tree.proofs.trees.Tree.raise.Goals as goal

pub from_parts-requires-clause-kept : goal.from_parts-requires-clause-kept
from_parts-requires-clause-kept c =
    let t = c.self.inside in
    rw c.raised-limits.ensures (raised-kept (seen t.names t.files t.made t.limits t.home t.uid t.gid) c.self.invariant.0)

pub from_parts-requires-clause-counted : goal.from_parts-requires-clause-counted
from_parts-requires-clause-counted c = c.self.invariant.1

pub returns : goal.returns
returns c =
    let t = c.self.inside in
    let parts : c.from_parts.result ≡ raised c.args.self = c.from_parts.ensures
    ∙ ap (λ (bounds : TreeLimits). seen t.names t.files t.made bounds t.home t.uid t.gid) c.raised-limits.ensures
    ∙ ap raised c.self.view_is in
    record { raised = parts }
