use Rattle.sftp_tree.proofs.Imports.{◌≡◌, sym, ap, subst, ◌∙◌, Tree, IsKept, content_at, with_changed_file, seen}
use Rattle.sftp_tree.proofs.Imports.{AreCounted}
use Rattle.sftp_tree.proofs.KeptTrees.{trimmed-already}
use Rattle.sftp_tree.proofs.KeptTrees.{kept-changed}
use Rattle.sftp_tree.proofs.KeptTrees.Counts.{owner-there, owner-changed, changed-parts}
use Rattle.sftp_tree.proofs.KeptTrees.Counts.{each-some}
use Rattle.sftp_tree.proofs.OpenFiles.{total-small, changed-count}
use Rattle.sftp_tree.proofs.Imports.{◌<◌, ◌^◌, IsTrue, fits, get, nat_cmp, Option, option_map, get-with_values, Content, Stored}
use Rattle.sftp_tree.specs.Tree.{total_of}
use Rattle.sftp_tree.proofs.trees.Tree.change_file.Goals as goal

pub change_at-requires-clause-total : goal.change_at-requires-clause-total
change_at-requires-clause-total c =
    subst (λ (t : Tree). total_of t.files < 2 ^ 63) (sym c.self.view_is)
    (total-small c.args.self.now (subst IsKept c.self.view_is c.self.invariant.0))

pub change_at-requires-clause-count : goal.change_at-requires-clause-count
change_at-requires-clause-count c = each-some _ (get nat_cmp c.self.inside.files c.args.number) (λ s there.
    let found = ap (λ (t : Tree). content_at t.files c.args.number) (sym c.self.view_is)
    ∙ get-with_values nat_cmp (λ (s : Stored). s.content) c.self.inside.files c.args.number
    ∙ ap (option_map (λ (s : Stored). s.content)) there in
    changed-count c.args.self.now c.args.number c.args.attrs.now s.content
    (subst IsKept c.self.view_is c.self.invariant.0)
    (subst (λ (o : Option Content). IsTrue (fits (with_changed_file c.args.self.now c.args.attrs.now c.args.number o))) found
    c.requires))

pub change_at-requires-clause-owner : goal.change_at-requires-clause-owner
change_at-requires-clause-owner c =
    owner-there c.self.inside.names c.self.inside.files c.self.inside.made c.self.inside.limits c.self.inside.home c.self.inside.uid c.self.inside.gid c.self.invariant.0 c.args.number

-- the tree afterwards, and its counts
parts : (c : goal.In_ok-change_at) → (seen c.self.inside.names c.change_at.new.self c.self.inside.made c.self.inside.limits c.self.inside.home c.self.inside.uid c.self.inside.gid ≡ with_changed_file c.args.self.now c.args.attrs.now c.args.number (content_at c.args.self.now.files c.args.number)) × AreCounted c.self.inside.names c.change_at.new.self
parts c =
    let both = changed-parts c.self.inside.names c.self.inside.files c.self.inside.made c.self.inside.limits c.self.inside.home c.self.inside.uid c.self.inside.gid c.self.invariant.0 c.self.invariant.1 c.args.attrs.now c.args.number c.change_at.new.self c.in_ok-change_at.ensures.ok in
    (both.0 ∙ ap (λ (t : Tree). with_changed_file t c.args.attrs.now c.args.number (content_at t.files c.args.number)) c.self.view_is, both.1)

kept : (c : goal.In_ok-change_at) → IsKept (with_changed_file c.args.self.now c.args.attrs.now c.args.number (content_at c.args.self.now.files c.args.number))
kept c = kept-changed c.args.self.now c.args.attrs.now c.args.number (subst IsKept c.self.view_is c.self.invariant.0)
    (λ content there. owner-changed c.self.inside.files c.args.attrs.now c.args.number c.in_ok-change_at.ensures.owned content (ap (λ (t : Tree). content_at t.files c.args.number) c.self.view_is ∙ there))
    c.requires

pub invariant_of-self-2 : goal.invariant_of-self-2
invariant_of-self-2 c = (subst IsKept (sym (parts c).0) (kept c), (parts c).1)

pub returns-clause-ok : goal.returns-clause-ok
returns-clause-ok c = (parts c).0 ∙ sym (trimmed-already _ (kept c).trimmed)

pub returns-clause-changed : goal.returns-clause-changed
returns-clause-changed c = (parts c).0

pub returns-clause-valid : goal.returns-clause-valid
returns-clause-valid c = (invariant_of-self-2 c).0
