use Rattle.sftp_tree.proofs.Imports.{sym, subst, ◌∙◌, IsTrue, node_at, with_node, is_directory}
use Rattle.sftp_tree.specs.declared.nodes.Node.TheVariants as nodes
use Rattle.sftp_tree.proofs.Nesting.Changes.{set-branch}
use Rattle.sftp_tree.proofs.Nesting.Entries.{set-with, set-length}
use Rattle.sftp_tree.proofs.entries.Entries.set_owner.Goals as goal

pub invariant_of-self : goal.invariant_of-self
invariant_of-self c = (
  set-branch c.self.inside.root c.set_owner.new.self c.names.result.now c.args.owner c.self.invariant.0
      c.set_owner.ensures,
  c.self.invariant.1
      ∙ sym (set-length c.names.result.now c.self.inside.root c.set_owner.new.self (nodes.Dir c.args.owner)
      c.self.invariant.0.0 (subst (λ found. IsTrue (is_directory found))
      (λ i. node_at (sym c.self.view_is i) (sym c.names.ensures.names i)) c.requires) c.set_owner.ensures),
)

pub returns : goal.returns
returns c =
    set-with c.names.result.now c.self.inside.root c.set_owner.new.self (nodes.Dir c.args.owner) c.self.invariant.0.0
    c.set_owner.ensures ∙ (λ i. with_node (c.self.view_is i) (c.names.ensures.names i) (nodes.Dir c.args.owner))
