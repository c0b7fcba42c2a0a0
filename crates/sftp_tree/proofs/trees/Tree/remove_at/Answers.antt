use Rattle.sftp_tree.proofs.Imports.{◌≡◌, ℕ, ◌+◌, ◌<◌, refl, sym, ap, subst, ◌∙◌, nat_cmp, get, Tree, IsKept, node_at}
use Rattle.sftp_tree.proofs.Imports.{without_node, times_named, trim, seen, AreCounted, IsChangedWhereNamed, file_named}
use Rattle.sftp_tree.proofs.Imports.{without_a_name}
use Rattle.std.specs.Option.{IfSome}
use Rattle.sftp_tree.proofs.KeptTrees.{kept-without}
use Rattle.sftp_tree.proofs.FileCounts.{one_name, named-without}
use Rattle.sftp_tree.proofs.KeptTrees.Counts.{name-to-lose, left-parts}
use Rattle.sftp_tree.proofs.trees.Tree.remove_at.Goals as goal

pub forget_name-requires : goal.forget_name-requires
forget_name-requires c =
    subst (λ named. IfSome named (λ number. IfSome (get nat_cmp c.self.inside.files number) (λ s. 0 < s.names))) (sym (c.file_named.ensures ∙ ap file_named (c.as_ref.ensures.value ∙ c.remove-gone.ensures.gone)))
    (name-to-lose c.self.inside.names c.self.inside.files c.self.invariant.1 c.args.place.now (node_at c.self.inside.names c.args.place.now) refl)

-- the tree afterwards, and its counts
parts : (c : goal.Joined-gone) → (seen c.remove-gone.new.self c.forget_name.new.self c.self.inside.made c.self.inside.limits c.self.inside.home c.self.inside.uid c.self.inside.gid ≡ trim (record c.args.self.now { names = without_node c.args.self.now.names c.args.place.now })) × AreCounted c.remove-gone.new.self c.forget_name.new.self
parts c =
    let names = c.self.inside.names in
    let gone = node_at names c.args.place.now in
    let is : c.remove-gone.new.self ≡ without_node names c.args.place.now = c.remove-gone.ensures.left in
    let less : (number : ℕ) → times_named c.remove-gone.new.self number + one_name gone number ≡ times_named names number =
    λ number. ap (λ ns. times_named ns number + one_name gone number) is ∙ named-without names c.args.place.now gone refl number in
    let named : c.file_named.result ≡ file_named gone = c.file_named.ensures ∙ ap file_named (c.as_ref.ensures.value ∙ c.remove-gone.ensures.gone) in
    let changed = subst (λ named. IsChangedWhereNamed without_a_name named c.self.inside.files c.forget_name.new.self) named c.forget_name.ensures in
    let both = left-parts names c.self.inside.files c.self.inside.made c.self.inside.limits c.self.inside.home c.self.inside.uid c.self.inside.gid c.self.invariant.0 c.self.invariant.1 gone c.remove-gone.new.self c.forget_name.new.self less changed in (
      both.0 ∙ ap (λ ns. trim (seen ns c.self.inside.files c.self.inside.made c.self.inside.limits c.self.inside.home c.self.inside.uid c.self.inside.gid)) is
          ∙ ap (λ (t : Tree). trim (record t { names = without_node t.names c.args.place.now })) c.self.view_is,
      both.1,
    )

pub invariant_of-self : goal.invariant_of-self
invariant_of-self c =
    let kept = kept-without c.args.self.now c.args.place.now (subst IsKept c.self.view_is c.self.invariant.0) c.requires.below_root c.requires.empty in
    (subst IsKept (sym (parts c).0) kept, (parts c).1)

pub returns-clause-removed : goal.returns-clause-removed
returns-clause-removed c = (parts c).0

pub returns-clause-valid : goal.returns-clause-valid
returns-clause-valid c = (invariant_of-self c).0
