use Rattle.sftp_tree.proofs.Imports.{ℕ, ◌≡◌, [], ◌∷◌, ◌++◌, Some, None, IsTrue, sym, ap, subst, ◌∙◌, arith, get_by}
use Rattle.sftp_tree.proofs.Imports.{is_at, Place, name_cmp, node_at, is_taken, branch, IsBranch}
use Rattle.sftp_tree.specs.declared.nodes.Node.TheVariants as nodes
use Rattle.sftp_tree.specs.declared.entries.directories.Child.TheVariants.{Dir, File, Link}
use Rattle.sftp_tree.proofs.Nesting.Changes as changes
use Rattle.sftp_tree.proofs.entries.directories.Dir.+replace.Goals as goal

-- ---- in the directory itself

pub unreachable-requires : goal.unreachable-requires
unreachable-requires t c = changes.not-taken (node_at c.args.self.now (c.args.parent.now ++ c.args.name.now ∷ []))
    (changes.found-below c.args.self.now c.self.inside.owner c.self.inside.children.entries
    (c.args.parent.now ++ c.args.name.now ∷ []) c.args.name.now [] None c.self.view_is c.self.invariant
    (ap (λ (place : Place). place ++ c.args.name.now ∷ []) (changes.no-names c.args.parent.now c.in_default.ensures.cases))
    c.in_default-get_mut.ensures.value ∙ changes.nothing-absent []) c.requires.taken

pub whole-in_default : (t : ℕ) (c : goal.After-self-in_default-1 t) → IsBranch c.exchange.new.self
whole-in_default t c = subst IsBranch (sym c.exchange.ensures.here) c.requires.branch

pub invariant_of-self : goal.invariant_of-self
invariant_of-self t c =
    changes.written-children c.self.inside.children (c.get_mut.follows.lender c.exchange.new.self) c.args.name.now
    c.in-Some-get_mut.inner.now c.exchange.new.self c.self.invariant (sym c.in-Some-get_mut.ensures.value)
    (whole-in_default t c) (c.get_mut.follows.holds c.exchange.new.self)

pub returns-in_default-clause-here : goal.returns-in_default-clause-here
returns-in_default-clause-here t c = changes.written-here c.args.self.now c.self.inside.owner c.self.inside.children
    (c.get_mut.follows.lender c.exchange.new.self) (c.args.parent.now ++ c.args.name.now ∷ []) c.args.name.now
    c.in-Some-get_mut.inner.now c.exchange.new.self c.args.child c.self.view_is c.self.invariant
    (sym c.in-Some-get_mut.ensures.value) (whole-in_default t c) (c.get_mut.follows.holds c.exchange.new.self)
    (ap (λ (place : Place). place ++ c.args.name.now ∷ []) (changes.no-names c.args.parent.now c.in_default.ensures.cases)) c.exchange.ensures.here

pub returns-in_default-clause-gone : goal.returns-in_default-clause-gone
returns-in_default-clause-gone t c rest =
    sym (changes.found-below c.args.self.now c.self.inside.owner c.self.inside.children.entries
    (c.args.parent.now ++ c.args.name.now ∷ rest) c.args.name.now rest
    (Some c.exchange.result) c.self.view_is c.self.invariant
    (ap (λ (place : Place). place ++ c.args.name.now ∷ rest) (changes.no-names c.args.parent.now c.in_default.ensures.cases))
    (ap Some c.exchange.ensures.gone ∙ c.in-Some-get_mut.ensures.value))

pub returns-in_default-clause-whole : goal.returns-in_default-clause-whole
returns-in_default-clause-whole t c =
    changes.found-child c.self.inside.children.entries (is_at (name_cmp c.args.name.now)) c.exchange.result
    c.self.invariant.1 (sym c.in-Some-get_mut.ensures.value ∙ ap Some (sym c.exchange.ensures.gone))

-- ---- below a child

pub unreachable-requires-in_default-get_mut-2 : goal.unreachable-requires-in_default-get_mut-2
unreachable-requires-in_default-get_mut-2 t c =
    changes.not-taken (node_at c.args.self.now (c.args.parent.now ++ c.args.name.now ∷ []))
    (changes.found-below c.args.self.now c.self.inside.owner c.self.inside.children.entries
    (c.args.parent.now ++ c.args.name.now ∷ []) c.in-Some.first.now (c.in-Some.rest.now ++ c.args.name.now ∷ [])
    None c.self.view_is c.self.invariant
    (ap (λ (place : Place). place ++ c.args.name.now ∷ []) c.in-Some.ensures.cases.0)
    c.in_default-get_mut-2.ensures.value ∙ changes.nothing-absent (c.in-Some.rest.now ++ c.args.name.now ∷ []))
    c.requires.taken

pub replace-requires : goal.replace-requires
replace-requires t c =
    let below : node_at c.args.self.now (c.args.parent.now ++ c.args.name.now ∷ [])
    ≡ node_at c.in-Dir.dir (c.in-Some.rest.now ++ c.args.name.now ∷ []) =
    changes.found-below c.args.self.now c.self.inside.owner c.self.inside.children.entries
    (c.args.parent.now ++ c.args.name.now ∷ []) c.in-Some.first.now (c.in-Some.rest.now ++ c.args.name.now ∷ [])
    (Some (Dir c.in-Dir.dir)) c.self.view_is c.self.invariant
    (ap (λ (place : Place). place ++ c.args.name.now ∷ []) c.in-Some.ensures.cases.0)
    (ap Some (sym c.in-Dir.is) ∙ c.in-Some-get_mut-2.ensures.value) in (
      omega (arith, c.in-Some.ensures.cases.1),
      (subst (λ found. IsTrue (is_taken found)) below c.requires.taken, c.requires.branch),
    )

pub unreachable-requires-in-File : goal.unreachable-requires-in-File
unreachable-requires-in-File t c =
    changes.not-taken (node_at c.args.self.now (c.args.parent.now ++ c.args.name.now ∷ []))
    (changes.found-below c.args.self.now c.self.inside.owner c.self.inside.children.entries
    (c.args.parent.now ++ c.args.name.now ∷ []) c.in-Some.first.now (c.in-Some.rest.now ++ c.args.name.now ∷ [])
    (Some (File c.in-File.field-0)) c.self.view_is c.self.invariant
    (ap (λ (place : Place). place ++ c.args.name.now ∷ []) c.in-Some.ensures.cases.0)
    (ap Some (sym c.in-File.is) ∙ c.in-Some-get_mut-2.ensures.value)
    ∙ changes.nothing-below (nodes.File c.in-File.field-0) c.in-Some.rest.now c.args.name.now []) c.requires.taken

pub unreachable-requires-in-Link : goal.unreachable-requires-in-Link
unreachable-requires-in-Link t c =
    changes.not-taken (node_at c.args.self.now (c.args.parent.now ++ c.args.name.now ∷ []))
    (changes.found-below c.args.self.now c.self.inside.owner c.self.inside.children.entries
    (c.args.parent.now ++ c.args.name.now ∷ []) c.in-Some.first.now (c.in-Some.rest.now ++ c.args.name.now ∷ [])
    (Some (Link c.in-Link.field-0)) c.self.view_is c.self.invariant
    (ap (λ (place : Place). place ++ c.args.name.now ∷ []) c.in-Some.ensures.cases.0)
    (ap Some (sym c.in-Link.is) ∙ c.in-Some-get_mut-2.ensures.value)
    ∙ changes.nothing-below (nodes.Link c.in-Link.field-0) c.in-Some.rest.now c.args.name.now []) c.requires.taken

pub whole : (t : ℕ) (c : goal.After-self-in-Dir-1 t) → IsBranch (Dir c.replace.new.self)
whole t c =
    let there : get_by (name_cmp c.in-Some.first.now) c.self.inside.children ≡ Some (Dir c.in-Dir.dir) =
    sym c.in-Some-get_mut-2.ensures.value ∙ ap Some c.in-Dir.is in
    changes.still-branch c.in-Dir.dir c.replace.new.self (branch c.args.child) c.in-Some.rest.now c.args.name.now
    (changes.found-child c.self.inside.children.entries (is_at (name_cmp c.in-Some.first.now)) (Dir c.in-Dir.dir)
    c.self.invariant.1 there) c.replace.ensures.here

pub invariant_of-self-2 : goal.invariant_of-self-2
invariant_of-self-2 t c =
    let there : get_by (name_cmp c.in-Some.first.now) c.self.inside.children ≡ Some (Dir c.in-Dir.dir) =
    sym c.in-Some-get_mut-2.ensures.value ∙ ap Some c.in-Dir.is in
    changes.written-children c.self.inside.children (c.get_mut-2.follows.lender (Dir c.replace.new.self))
    c.in-Some.first.now (Dir c.in-Dir.dir) (Dir c.replace.new.self) c.self.invariant there (whole t c)
    (c.get_mut-2.follows.holds (Dir c.replace.new.self))

pub returns-clause-here : goal.returns-clause-here
returns-clause-here t c =
    let there : get_by (name_cmp c.in-Some.first.now) c.self.inside.children ≡ Some (Dir c.in-Dir.dir) =
    sym c.in-Some-get_mut-2.ensures.value ∙ ap Some c.in-Dir.is in
    changes.written-grafted c.args.self.now c.self.inside.owner c.self.inside.children
    (c.get_mut-2.follows.lender (Dir c.replace.new.self)) (c.args.parent.now ++ c.args.name.now ∷ [])
    c.in-Some.first.now (c.in-Some.rest.now ++ c.args.name.now ∷ []) c.in-Dir.dir c.replace.new.self
    (branch c.args.child) c.self.view_is c.self.invariant there (whole t c)
    (c.get_mut-2.follows.holds (Dir c.replace.new.self))
    (ap (λ (place : Place). place ++ c.args.name.now ∷ []) c.in-Some.ensures.cases.0) c.replace.ensures.here

pub returns-clause-gone : goal.returns-clause-gone
returns-clause-gone t c rest = c.replace.ensures.gone rest
    ∙ sym (changes.found-below c.args.self.now c.self.inside.owner c.self.inside.children.entries
    (c.args.parent.now ++ c.args.name.now ∷ rest) c.in-Some.first.now (c.in-Some.rest.now ++ c.args.name.now ∷ rest)
    (Some (Dir c.in-Dir.dir)) c.self.view_is c.self.invariant
    (ap (λ (place : Place). place ++ c.args.name.now ∷ rest) c.in-Some.ensures.cases.0)
    (ap Some (sym c.in-Dir.is) ∙ c.in-Some-get_mut-2.ensures.value))
