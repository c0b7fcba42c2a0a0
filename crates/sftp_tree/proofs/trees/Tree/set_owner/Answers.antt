use Rattle.sftp_tree.proofs.Imports.{◌≡◌, sym, ap, subst, ◌∙◌, IsTrue, Dir, Tree, IsKept, node_at, with_node}
use Rattle.sftp_tree.proofs.Imports.{is_directory, seen, AreCounted}
use Rattle.sftp_tree.proofs.KeptTrees.{trimmed-already}
use Rattle.sftp_tree.proofs.KeptTrees.{kept-owner-there}
use Rattle.sftp_tree.proofs.KeptTrees.Counts.{owner-parts}
use Rattle.sftp_tree.proofs.trees.Tree.set_owner.Goals as goal

-- the tree afterwards
tree : (c : goal.After-set_owner) → seen c.set_owner.new.self c.self.inside.files c.self.inside.made c.self.inside.limits c.self.inside.home c.self.inside.uid c.self.inside.gid ≡ record c.args.self.now { names = with_node c.args.self.now.names c.args.place.now (Dir c.args.owner) }
tree c = cc

-- its counts
counts : (c : goal.After-set_owner) → AreCounted c.set_owner.new.self c.self.inside.files
counts c =
    let directory : IsTrue (is_directory (node_at c.self.inside.names c.args.place.now)) = ap (λ (t : Tree). is_directory (node_at t.names c.args.place.now)) c.self.view_is ∙ c.requires.directory in
    owner-parts c.self.inside.names c.self.inside.files c.self.inside.made c.self.inside.limits c.self.inside.home c.self.inside.uid c.self.inside.gid c.self.invariant.0 c.self.invariant.1 c.args.place.now c.args.owner directory c.set_owner.new.self c.set_owner.ensures

kept : (c : goal.After-set_owner) → IsKept (record c.args.self.now { names = with_node c.args.self.now.names c.args.place.now (Dir c.args.owner) })
kept c = kept-owner-there c.args.self.now c.args.place.now c.args.owner (subst IsKept c.self.view_is c.self.invariant.0) c.requires.directory c.requires.owner

pub invariant_of-self : goal.invariant_of-self
invariant_of-self c = (subst IsKept (sym (tree c)) (kept c), counts c)

pub returns-clause-owned : goal.returns-clause-owned
returns-clause-owned c = tree c ∙ sym (trimmed-already _ (kept c).trimmed)

pub returns-clause-valid : goal.returns-clause-valid
returns-clause-valid c = (invariant_of-self c).0
