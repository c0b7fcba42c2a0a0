use Rattle.sftp_tree.proofs.Imports.{ℕ, ◌≡◌, Some, None, IsTrue, refl, sym, ap, subst, ◌∙◌, arith, get_by, is_at}
use Rattle.sftp_tree.proofs.Imports.{name_cmp, node_at, is_directory, IsBranch}
use Rattle.sftp_tree.specs.declared.nodes.Node.TheVariants as nodes
use Rattle.sftp_tree.specs.declared.entries.directories.Child.TheVariants.{Dir, File, Link}
use Rattle.sftp_tree.proofs.Nesting.Changes as changes
use Rattle.sftp_tree.proofs.entries.directories.Dir.+set_owner.Goals as goal

pub returns-in_default : goal.returns-in_default
returns-in_default t c =
    changes.set-here c.args.self.now c.self.inside.owner c.args.owner c.self.inside.children.entries c.args.names.now
    c.self.view_is c.self.invariant (changes.no-names c.args.names.now c.in_default.ensures.cases)

pub unreachable-requires : goal.unreachable-requires
unreachable-requires t c = changes.directory-absent c.in-Some.rest.now (node_at c.args.self.now c.args.names.now)
    (changes.found-below c.args.self.now c.self.inside.owner c.self.inside.children.entries
    c.args.names.now c.in-Some.first.now c.in-Some.rest.now None c.self.view_is c.self.invariant
    c.in-Some.ensures.cases.0 c.in_default-get_mut.ensures.value) c.requires

pub set_owner-requires : goal.set_owner-requires
set_owner-requires t c =
    let below : node_at c.args.self.now c.args.names.now ≡ node_at c.in-Dir.dir c.in-Some.rest.now =
    changes.found-below c.args.self.now c.self.inside.owner c.self.inside.children.entries
    c.args.names.now c.in-Some.first.now c.in-Some.rest.now (Some (Dir c.in-Dir.dir)) c.self.view_is c.self.invariant
    c.in-Some.ensures.cases.0 (ap Some (sym c.in-Dir.is) ∙ c.in-Some-get_mut.ensures.value) in
    (omega (arith, c.in-Some.ensures.cases.1), subst (λ found. IsTrue (is_directory found)) below c.requires)

pub unreachable-requires-in-File : goal.unreachable-requires-in-File
unreachable-requires-in-File t c = changes.directory-below c.in-Some.rest.now (nodes.File c.in-File.field-0)
    (node_at c.args.self.now c.args.names.now) refl
    (changes.found-below c.args.self.now c.self.inside.owner c.self.inside.children.entries
    c.args.names.now c.in-Some.first.now c.in-Some.rest.now
    (Some (File c.in-File.field-0)) c.self.view_is c.self.invariant c.in-Some.ensures.cases.0
    (ap Some (sym c.in-File.is) ∙ c.in-Some-get_mut.ensures.value)) c.requires

pub unreachable-requires-in-Link : goal.unreachable-requires-in-Link
unreachable-requires-in-Link t c = changes.directory-below c.in-Some.rest.now (nodes.Link c.in-Link.field-0)
    (node_at c.args.self.now c.args.names.now) refl
    (changes.found-below c.args.self.now c.self.inside.owner c.self.inside.children.entries
    c.args.names.now c.in-Some.first.now c.in-Some.rest.now
    (Some (Link c.in-Link.field-0)) c.self.view_is c.self.invariant c.in-Some.ensures.cases.0
    (ap Some (sym c.in-Link.is) ∙ c.in-Some-get_mut.ensures.value)) c.requires

pub whole : (t : ℕ) (c : goal.After-self-in-Dir-1 t) → IsBranch (Dir c.set_owner.new.self)
whole t c =
    let there : get_by (name_cmp c.in-Some.first.now) c.self.inside.children ≡ Some (Dir c.in-Dir.dir) =
    sym c.in-Some-get_mut.ensures.value ∙ ap Some c.in-Dir.is in
    changes.set-branch c.in-Dir.dir c.set_owner.new.self c.in-Some.rest.now c.args.owner
    (changes.found-child c.self.inside.children.entries (is_at (name_cmp c.in-Some.first.now)) (Dir c.in-Dir.dir)
    c.self.invariant.1 there) c.set_owner.ensures

pub invariant_of-self-2 : goal.invariant_of-self-2
invariant_of-self-2 t c =
    let there : get_by (name_cmp c.in-Some.first.now) c.self.inside.children ≡ Some (Dir c.in-Dir.dir) =
    sym c.in-Some-get_mut.ensures.value ∙ ap Some c.in-Dir.is in
    changes.written-children c.self.inside.children (c.get_mut.follows.lender (Dir c.set_owner.new.self))
    c.in-Some.first.now (Dir c.in-Dir.dir) (Dir c.set_owner.new.self) c.self.invariant there (whole t c)
    (c.get_mut.follows.holds (Dir c.set_owner.new.self))

pub returns : goal.returns
returns t c =
    let there : get_by (name_cmp c.in-Some.first.now) c.self.inside.children ≡ Some (Dir c.in-Dir.dir) =
    sym c.in-Some-get_mut.ensures.value ∙ ap Some c.in-Dir.is in
    changes.written-set c.args.self.now c.self.inside.owner c.self.inside.children
    (c.get_mut.follows.lender (Dir c.set_owner.new.self)) c.args.names.now c.in-Some.first.now c.in-Some.rest.now
    c.in-Dir.dir c.set_owner.new.self (nodes.Dir c.args.owner) c.self.view_is c.self.invariant there (whole t c)
    (c.get_mut.follows.holds (Dir c.set_owner.new.self)) c.in-Some.ensures.cases.0 c.set_owner.ensures
