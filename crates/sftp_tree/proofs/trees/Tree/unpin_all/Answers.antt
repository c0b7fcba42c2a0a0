use Rattle.sftp_tree.proofs.Imports.{◌≡◌, ◌∙◌, [], ap, subst, sym, Tree, IsKept, trim, seen, AreCounted}
use Rattle.sftp_tree.proofs.OpenFiles.{kept-unpinned, unpinned-parts}
use Rattle.sftp_tree.proofs.trees.Tree.unpin_all.Goals as goal

-- the tree afterwards, and its counts
parts : (c : goal.After-unpin_all)
    → (seen c.self.inside.names c.unpin_all.new.self c.self.inside.made c.self.inside.limits c.self.inside.home c.self.inside.uid c.self.inside.gid
    ≡ trim (record c.args.self.now { pins = [] })) × AreCounted c.self.inside.names c.unpin_all.new.self
parts c =
    let both = unpinned-parts c.self.inside.names c.self.inside.files c.self.inside.made c.self.inside.limits c.self.inside.home c.self.inside.uid c.self.inside.gid c.self.invariant.1 c.unpin_all.new.self c.unpin_all.ensures in
    (both.0 ∙ ap (λ (t : Tree). trim (record t { pins = [] })) c.self.view_is, both.1)

pub invariant_of-self : goal.invariant_of-self
invariant_of-self c =
    let kept = kept-unpinned c.args.self.now (subst IsKept c.self.view_is c.self.invariant.0) in
    (subst IsKept (sym (parts c).0) kept, (parts c).1)

pub returns : goal.returns
returns c = record {
  unpinned = (parts c).0;
  kept = subst IsKept (sym (parts c).0) (kept-unpinned c.args.self.now (subst IsKept c.self.view_is c.self.invariant.0));
}
