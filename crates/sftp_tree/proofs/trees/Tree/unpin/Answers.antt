use Rattle.sftp_tree.proofs.Imports.{◌≡◌, ℕ, sym, ap, subst, ◌∙◌, Table, Stored, Tree, IsKept, is_pinned, seen}
use Rattle.sftp_tree.proofs.Imports.{AreCounted, after_unpin}
use Rattle.sftp_tree.proofs.KeptTrees.Counts.{files-in_order}
use Rattle.sftp_tree.proofs.OpenFiles.{pinned-there, kept-unpin, pin-to-lose, unpin-parts}
use Rattle.sftp_tree.proofs.trees.Tree.unpin.Goals as goal

pub unpin-requires : goal.unpin-requires
unpin-requires c = pin-to-lose c.self.inside.files c.args.number
    (files-in_order c.self.inside.files c.self.invariant.0.well_formed.numbered)
    (ap (λ (t : Tree). is_pinned t.pins c.args.number) c.self.view_is ∙ c.requires)

-- the tree with other files
abbrev with_files : (c : goal.After-unpin) → Table ℕ Stored → Tree
with_files c files =
    seen c.self.inside.names files c.self.inside.made c.self.inside.limits c.self.inside.home c.self.inside.uid
    c.self.inside.gid

-- the tree afterwards, and its counts
parts : (c : goal.After-unpin) → (with_files c c.unpin.new.self ≡ after_unpin c.args.self.now c.args.number)
    × AreCounted c.self.inside.names c.unpin.new.self
parts c =
    let both = unpin-parts c.self.inside.names c.self.inside.files c.self.inside.made c.self.inside.limits c.self.inside.home
    c.self.inside.uid c.self.inside.gid c.self.invariant.0 c.self.invariant.1 c.args.number c.unpin.new.self
    c.unpin.ensures in
    (both.0 ∙ ap (λ (t : Tree). after_unpin t c.args.number) c.self.view_is, both.1)

pub invariant_of-self : goal.invariant_of-self
invariant_of-self c =
    let before = subst IsKept c.self.view_is c.self.invariant.0 in
    let there = pinned-there c.args.self.now c.args.number before.well_formed c.requires in
    let kept = kept-unpin c.args.self.now c.args.number before there in
    (subst IsKept (sym (parts c).0) kept, (parts c).1)

pub returns-clause-unpinned : goal.returns-clause-unpinned
returns-clause-unpinned c = (parts c).0

pub returns-clause-valid : goal.returns-clause-valid
returns-clause-valid c = (invariant_of-self c).0
