use Rattle.sftp_tree.proofs.Imports.{◌≡◌, ℕ, ◌<◌, ◌^◌, sym, ap, subst, ◌∙◌, is_some, Table, Stored, Tree, IsKept}
use Rattle.sftp_tree.proofs.Imports.{HasFile, content_at, times_pinned, contents, seen, AreCounted, after_pin}
use Rattle.sftp_tree.proofs.KeptTrees.Counts.{files-in_order}
use Rattle.sftp_tree.proofs.OpenFiles.{kept-pin, room-to-pin, pin-parts}
use Rattle.sftp_tree.proofs.trees.Tree.pin.Goals as goal

pub pin-requires : goal.pin-requires
pin-requires c = room-to-pin c.self.inside.files c.args.number
    (files-in_order c.self.inside.files c.self.invariant.0.well_formed.numbered)
    (subst (λ n. n < 2 ^ 32) (sym (ap (λ (t : Tree). times_pinned t.pins c.args.number) c.self.view_is)) c.requires.few)

-- the tree with other files
abbrev with_files : (c : goal.After-pin) → Table ℕ Stored → Tree
with_files c files =
    seen c.self.inside.names files c.self.inside.made c.self.inside.limits c.self.inside.home c.self.inside.uid
    c.self.inside.gid

-- the tree afterwards, and its counts
parts : (c : goal.After-pin) → (with_files c c.pin.new.self ≡ after_pin c.args.self.now c.args.number)
    × AreCounted c.self.inside.names c.pin.new.self
parts c =
    let there : HasFile (contents c.self.inside.files) c.args.number =
    ap (λ (t : Tree). is_some (content_at t.files c.args.number)) c.self.view_is ∙ c.requires.file in
    let both = pin-parts c.self.inside.names c.self.inside.files c.self.inside.made c.self.inside.limits c.self.inside.home
    c.self.inside.uid c.self.inside.gid c.self.invariant.0 c.self.invariant.1 c.args.number c.pin.new.self there c.pin.ensures in
    (both.0 ∙ ap (λ (t : Tree). after_pin t c.args.number) c.self.view_is, both.1)

pub invariant_of-self : goal.invariant_of-self
invariant_of-self c =
    let before = subst IsKept c.self.view_is c.self.invariant.0 in
    let kept = kept-pin c.args.self.now c.args.number before c.requires.file in
    (subst IsKept (sym (parts c).0) kept, (parts c).1)

pub returns-clause-pinned : goal.returns-clause-pinned
returns-clause-pinned c = (parts c).0

pub returns-clause-valid : goal.returns-clause-valid
returns-clause-valid c = (invariant_of-self c).0
