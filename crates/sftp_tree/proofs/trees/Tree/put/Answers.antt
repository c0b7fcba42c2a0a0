use Rattle.sftp_tree.proofs.Imports.{◌≡◌, sym, ap, subst, ◌∙◌, None, Tree, IsKept, node_at, with_node, seen, AreCounted}
use Rattle.sftp_tree.proofs.Imports.{IsChangedWhereNamed, with_a_name}
use Rattle.sftp_tree.proofs.KeptTrees.{trimmed-already}
use Rattle.sftp_tree.proofs.KeptTrees.{kept-put}
use Rattle.sftp_tree.proofs.KeptTrees.Counts.{room-to-count, put-parts}
use Rattle.sftp_tree.proofs.trees.Tree.put.Goals as goal

pub count_name-requires : goal.count_name-requires
count_name-requires c = room-to-count _ c.self.inside.files c.self.invariant.0 c.self.invariant.1 c.file_named-named.result

parts : (c : goal.After-drop-place-inside-2) → (seen c.put.new.self c.count_name.new.self c.self.inside.made c.self.inside.limits c.self.inside.home c.self.inside.uid c.self.inside.gid ≡ record c.args.self.now { names = with_node c.args.self.now.names c.args.place c.args.node }) × AreCounted c.put.new.self c.count_name.new.self
parts c =
    let absent : node_at c.self.inside.names c.args.place ≡ None = ap (λ (t : Tree). node_at t.names c.args.place) c.self.view_is ∙ c.requires.absent in
    let changed = subst (λ named. IsChangedWhereNamed with_a_name named c.self.inside.files c.count_name.new.self) c.file_named-named.ensures c.count_name.ensures in
    let both = put-parts c.self.inside.names c.self.inside.files c.self.inside.made c.self.inside.limits c.self.inside.home c.self.inside.uid c.self.inside.gid c.args.place c.args.node c.self.invariant.0 c.self.invariant.1 absent c.put.new.self c.count_name.new.self c.in_ok-put.ensures.ok changed in
    (both.0 ∙ ap (λ (t : Tree). record t { names = with_node t.names c.args.place c.args.node }) c.self.view_is, both.1)

kept : (c : goal.After-drop-place-inside-2) → IsKept (record c.args.self.now { names = with_node c.args.self.now.names c.args.place c.args.node })
kept c =
    kept-put c.args.self.now c.args.place c.args.node (subst IsKept c.self.view_is c.self.invariant.0) c.requires.named c.requires.absent c.requires.parent c.requires.node c.requires.fits

pub invariant_of-self-2 : goal.invariant_of-self-2
invariant_of-self-2 c = (subst IsKept (sym (parts c).0) (kept c), (parts c).1)

pub returns-clause-ok : goal.returns-clause-ok
returns-clause-ok c = (parts c).0 ∙ sym (trimmed-already _ (kept c).trimmed)

pub returns-clause-valid : goal.returns-clause-valid
returns-clause-valid c = (invariant_of-self-2 c).0
