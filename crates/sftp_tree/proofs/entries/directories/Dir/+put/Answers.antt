use Rattle.sftp_tree.proofs.Imports.{◌≡◌, [], ◌∷◌, ◌++◌, Some, None, IsTrue, refl, sym, ap, subst, ◌∙◌, arith, get_by}
use Rattle.sftp_tree.proofs.Imports.{is_at, Place, name_cmp, Names, node_at, is_directory, branch, IsBranch}
use Rattle.sftp_tree.specs.declared.nodes.Node.TheVariants as nodes
use Rattle.sftp_tree.specs.declared.entries.directories.Child.TheVariants.{Dir, File, Link}
use Rattle.sftp_tree.proofs.Nesting.Changes as changes
use Rattle.sftp_tree.proofs.entries.directories.Dir.+put.Goals as goal

-- ---- in the directory itself

pub invariant_of-self-in_default : goal.invariant_of-self-in_default
invariant_of-self-in_default t c =
    changes.updated-children c.self.inside.children c.insert.new.self c.args.name (Some c.args.child) c.self.invariant
    c.in_ok-gone.ensures.updates c.insert.ensures.ordered c.requires.branch

pub returns-in_default-clause-ok : goal.returns-in_default-clause-ok
returns-in_default-clause-ok t c =
    changes.updated-grafted c.args.self.now c.self.inside.owner c.self.inside.children c.insert.new.self
    (c.args.parent.now ++ c.args.name ∷ []) c.args.name (Some c.args.child) c.self.view_is c.self.invariant
    (invariant_of-self-in_default t c) c.in_ok-gone.ensures.updates
    (ap (λ (place : Place). place ++ c.args.name ∷ []) (changes.no-names c.args.parent.now c.in_default.ensures.cases))

pub returns-in_default-clause-gone : goal.returns-in_default-clause-gone
returns-in_default-clause-gone t c rest =
    sym (changes.found-below c.args.self.now c.self.inside.owner c.self.inside.children.entries
    (c.args.parent.now ++ c.args.name ∷ rest) c.args.name rest c.in_ok-gone.gone c.self.view_is c.self.invariant
    (ap (λ (place : Place). place ++ c.args.name ∷ rest) (changes.no-names c.args.parent.now c.in_default.ensures.cases)) c.in_ok-gone.ensures.old)

pub returns-in_default-clause-whole : goal.returns-in_default-clause-whole
returns-in_default-clause-whole t c =
    changes.found-branch c.self.inside.children.entries (is_at (name_cmp c.args.name)) c.in_ok-gone.gone
    c.self.invariant.1 c.in_ok-gone.ensures.old

-- ---- below a child

pub unreachable-requires : goal.unreachable-requires
unreachable-requires t c = changes.directory-absent c.in-Some.rest.now (node_at c.args.self.now c.args.parent.now)
    (changes.found-below c.args.self.now c.self.inside.owner c.self.inside.children.entries c.args.parent.now
    c.in-Some.first.now c.in-Some.rest.now None c.self.view_is c.self.invariant c.in-Some.ensures.cases.0
    c.in_default-get_mut.ensures.value) c.requires.parent

pub unreachable-requires-in-File : goal.unreachable-requires-in-File
unreachable-requires-in-File t c = changes.directory-below c.in-Some.rest.now (nodes.File c.in-File.field-0)
    (node_at c.args.self.now c.args.parent.now) refl
    (changes.found-below c.args.self.now c.self.inside.owner c.self.inside.children.entries c.args.parent.now
    c.in-Some.first.now c.in-Some.rest.now (Some (File c.in-File.field-0)) c.self.view_is c.self.invariant
    c.in-Some.ensures.cases.0 (ap Some (sym c.in-File.is) ∙ c.in-Some-get_mut.ensures.value)) c.requires.parent

pub unreachable-requires-in-Link : goal.unreachable-requires-in-Link
unreachable-requires-in-Link t c = changes.directory-below c.in-Some.rest.now (nodes.Link c.in-Link.field-0)
    (node_at c.args.self.now c.args.parent.now) refl
    (changes.found-below c.args.self.now c.self.inside.owner c.self.inside.children.entries c.args.parent.now
    c.in-Some.first.now c.in-Some.rest.now (Some (Link c.in-Link.field-0)) c.self.view_is c.self.invariant
    c.in-Some.ensures.cases.0 (ap Some (sym c.in-Link.is) ∙ c.in-Some-get_mut.ensures.value)) c.requires.parent

pub put-requires : goal.put-requires
put-requires t c =
    let below : node_at c.args.self.now c.args.parent.now ≡ node_at c.in-Dir.dir c.in-Some.rest.now =
    changes.found-below c.args.self.now c.self.inside.owner c.self.inside.children.entries c.args.parent.now
    c.in-Some.first.now c.in-Some.rest.now (Some (Dir c.in-Dir.dir)) c.self.view_is c.self.invariant
    c.in-Some.ensures.cases.0 (ap Some (sym c.in-Dir.is) ∙ c.in-Some-get_mut.ensures.value) in (
      omega (arith, c.in-Some.ensures.cases.1),
      (subst (λ found. IsTrue (is_directory found)) below c.requires.parent, c.requires.branch),
    )

pub invariant_of-self-in_err-gone-in-Dir : goal.invariant_of-self-in_err-gone-in-Dir
invariant_of-self-in_err-gone-in-Dir t c =
    let there : get_by (name_cmp c.in-Some.first.now) c.self.inside.children ≡ Some (Dir c.in-Dir.dir) =
    sym c.in-Some-get_mut.ensures.value ∙ ap Some c.in-Dir.is in
    changes.written-children c.self.inside.children (c.get_mut.follows.lender (Dir c.put.new.self)) c.in-Some.first.now
    (Dir c.in-Dir.dir) (Dir c.put.new.self) c.self.invariant there
    (subst (λ (names : Names). IsBranch (Dir names)) (sym c.in_err-gone-in-Dir.ensures.err)
    (changes.found-child c.self.inside.children.entries (is_at (name_cmp c.in-Some.first.now)) (Dir c.in-Dir.dir)
    c.self.invariant.1 there)) (c.get_mut.follows.holds (Dir c.put.new.self))

pub returns-in_err-gone-in-Dir-clause-err : goal.returns-in_err-gone-in-Dir-clause-err
returns-in_err-gone-in-Dir-clause-err t c =
    let there : get_by (name_cmp c.in-Some.first.now) c.self.inside.children ≡ Some (Dir c.in-Dir.dir) =
    sym c.in-Some-get_mut.ensures.value ∙ ap Some c.in-Dir.is in
    changes.on-err c.from_residual-in_err-gone-in-Dir.result
    (changes.written-back c.args.self.now c.self.inside.owner c.self.inside.children
    (c.get_mut.follows.lender (Dir c.put.new.self)) c.in-Some.first.now (Dir c.in-Dir.dir) (Dir c.put.new.self)
    c.self.view_is there (ap Dir c.in_err-gone-in-Dir.ensures.err) (c.get_mut.follows.holds (Dir c.put.new.self)))

pub invariant_of-self-2 : goal.invariant_of-self-2
invariant_of-self-2 t c =
    let there : get_by (name_cmp c.in-Some.first.now) c.self.inside.children ≡ Some (Dir c.in-Dir.dir) =
    sym c.in-Some-get_mut.ensures.value ∙ ap Some c.in-Dir.is in
    let whole = changes.found-child c.self.inside.children.entries (is_at (name_cmp c.in-Some.first.now))
    (Dir c.in-Dir.dir) c.self.invariant.1 there in
    changes.written-children c.self.inside.children (c.get_mut.follows.lender (Dir c.put.new.self)) c.in-Some.first.now
    (Dir c.in-Dir.dir) (Dir c.put.new.self) c.self.invariant there
    (changes.still-branch c.in-Dir.dir c.put.new.self (branch c.args.child) c.in-Some.rest.now c.args.name whole
    c.in_ok-gone-in-Dir.ensures.ok) (c.get_mut.follows.holds (Dir c.put.new.self))

pub returns-clause-ok : goal.returns-clause-ok
returns-clause-ok t c =
    let there : get_by (name_cmp c.in-Some.first.now) c.self.inside.children ≡ Some (Dir c.in-Dir.dir) =
    sym c.in-Some-get_mut.ensures.value ∙ ap Some c.in-Dir.is in
    let whole = changes.found-child c.self.inside.children.entries (is_at (name_cmp c.in-Some.first.now))
    (Dir c.in-Dir.dir) c.self.invariant.1 there in
    changes.written-grafted c.args.self.now c.self.inside.owner c.self.inside.children
    (c.get_mut.follows.lender (Dir c.put.new.self)) (c.args.parent.now ++ c.args.name ∷ []) c.in-Some.first.now
    (c.in-Some.rest.now ++ c.args.name ∷ []) c.in-Dir.dir c.put.new.self (branch c.args.child) c.self.view_is
    c.self.invariant there
    (changes.still-branch c.in-Dir.dir c.put.new.self (branch c.args.child) c.in-Some.rest.now c.args.name whole
    c.in_ok-gone-in-Dir.ensures.ok) (c.get_mut.follows.holds (Dir c.put.new.self))
    (ap (λ (place : Place). place ++ c.args.name ∷ []) c.in-Some.ensures.cases.0) c.in_ok-gone-in-Dir.ensures.ok

pub returns-clause-gone : goal.returns-clause-gone
returns-clause-gone t c rest = c.in_ok-gone-in-Dir.ensures.gone rest
    ∙ sym (changes.found-below c.args.self.now c.self.inside.owner c.self.inside.children.entries
    (c.args.parent.now ++ c.args.name ∷ rest) c.in-Some.first.now (c.in-Some.rest.now ++ c.args.name ∷ rest)
    (Some (Dir c.in-Dir.dir)) c.self.view_is c.self.invariant
    (ap (λ (place : Place). place ++ c.args.name ∷ rest) c.in-Some.ensures.cases.0)
    (ap Some (sym c.in-Dir.is) ∙ c.in-Some-get_mut.ensures.value))
