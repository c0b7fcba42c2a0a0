use Rattle.sftp_tree.proofs.Imports.{◌≡◌, ℕ, ◌+◌, ◌<◌, ◌∷◌, ◌++◌, false, refl, sym, ap, subst, ◌∙◌, None, IsTrue, Name}
use Rattle.sftp_tree.proofs.Imports.{Place, parent, begins, rekeyed, same_place, nat_cmp, get, Tree, IsKept}
use Rattle.sftp_tree.proofs.Imports.{is_directory, node_at, without_node, has_entries, times_named, trim, goes_inside}
use Rattle.sftp_tree.proofs.Imports.{put_in_its_stead, seen, AreCounted, IsChangedWhereNamed, file_named}
use Rattle.sftp_tree.proofs.Imports.{without_a_name}
use Rattle.std.specs.Option.{IfSome}
use Rattle.sftp_tree.proofs.KeptTrees.{kept-move}
use Rattle.sftp_tree.proofs.WellFormedTrees.{apart-from, alone-there}
use Rattle.sftp_tree.proofs.FileCounts.{one_name}
use Rattle.sftp_tree.proofs.KeptTrees.Counts.{name-to-lose, left-parts}
use Rattle.sftp_tree.proofs.FileCounts.{named-moved}
use Rattle.sftp_tree.proofs.trees.Tree.move_to.Goals as goal

-- the new place is not below the old one, and nothing is below it
apart : (t : Tree) (old new : Place) → IsKept t → goes_inside t.names old new ≡ false → same_place old new ≡ false → IsTrue (is_directory (node_at t.names (parent new))) → begins old new ≡ false
apart t old new kept = apart-from t.names old new kept.well_formed.parents

alone : (inside t : Tree) (new : Place) → inside ≡ t → has_entries t.names new ≡ false → (n : Name) (ns : Place) → node_at inside.names (new ++ n ∷ ns) ≡ None
alone inside t new is empty = alone-there inside.names new (ap (λ (t : Tree). has_entries t.names new) is ∙ empty)

pub move_node-requires-clause-apart : goal.move_node-requires-clause-apart
move_node-requires-clause-apart c =
    apart c.args.self.now c.args.old.now c.args.new (subst IsKept c.self.view_is c.self.invariant.0) c.requires.outside c.requires.elsewhere c.requires.parent

pub forget_name-requires : goal.forget_name-requires
forget_name-requires c =
    subst (λ named. IfSome named (λ number. IfSome (get nat_cmp c.self.inside.files number) (λ s. 0 < s.names))) (sym (c.file_named.ensures ∙ ap file_named (c.as_ref.ensures.value ∙ c.in_ok-gone.ensures.gone)))
    (name-to-lose c.self.inside.names c.self.inside.files c.self.invariant.1 c.args.new (node_at c.self.inside.names c.args.new) refl)

-- the tree afterwards, and its counts
parts : (c : goal.After-drop-new-inside-2) → (seen c.move_node.new.self c.forget_name.new.self c.self.inside.made c.self.inside.limits c.self.inside.home c.self.inside.uid c.self.inside.gid ≡ trim (put_in_its_stead c.args.self.now c.args.old.now c.args.new)) × AreCounted c.move_node.new.self c.forget_name.new.self
parts c =
    let names = c.self.inside.names in
    let old = c.args.old.now in
    let new = c.args.new in
    let gone = node_at names new in
    let is : c.move_node.new.self ≡ rekeyed old new (without_node names new) = c.in_ok-gone.ensures.moved in
    let less : (number : ℕ) → times_named c.move_node.new.self number + one_name gone number ≡ times_named names number =
    λ number. ap (λ ns. times_named ns number + one_name gone number) is ∙ named-moved names old new c.self.invariant.0.well_formed.ordered (alone _ c.args.self.now new c.self.view_is c.requires.alone) gone refl number in
    let named : c.file_named.result ≡ file_named gone = c.file_named.ensures ∙ ap file_named (c.as_ref.ensures.value ∙ c.in_ok-gone.ensures.gone) in
    let changed = subst (λ named. IsChangedWhereNamed without_a_name named c.self.inside.files c.forget_name.new.self) named c.forget_name.ensures in
    let both = left-parts names c.self.inside.files c.self.inside.made c.self.inside.limits c.self.inside.home c.self.inside.uid c.self.inside.gid c.self.invariant.0 c.self.invariant.1 gone c.move_node.new.self c.forget_name.new.self less changed in (
      both.0 ∙ ap (λ ns. trim (seen ns c.self.inside.files c.self.inside.made c.self.inside.limits c.self.inside.home c.self.inside.uid c.self.inside.gid)) is
          ∙ ap (λ (t : Tree). trim (put_in_its_stead t old new)) c.self.view_is,
      both.1,
    )

pub invariant_of-self-2 : goal.invariant_of-self-2
invariant_of-self-2 c =
    let before : IsKept c.args.self.now = subst IsKept c.self.view_is c.self.invariant.0 in
    let kept = kept-move c.args.self.now c.args.old.now c.args.new before c.requires.named c.requires.old_below_root c.requires.new_below_root (apart c.args.self.now c.args.old.now c.args.new before c.requires.outside c.requires.elsewhere c.requires.parent) c.requires.parent c.requires.alone c.requires.fits in
    (subst IsKept (sym (parts c).0) kept, (parts c).1)

pub returns-clause-ok : goal.returns-clause-ok
returns-clause-ok c = (parts c).0

pub returns-clause-valid : goal.returns-clause-valid
returns-clause-valid c = (invariant_of-self-2 c).0
