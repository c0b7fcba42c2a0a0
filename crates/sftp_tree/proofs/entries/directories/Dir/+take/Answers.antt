use Rattle.sftp_tree.proofs.Imports.{ℕ, ◌≡◌, [], ◌∷◌, ◌++◌, Some, None, refl, sym, ap, subst, ◌∙◌, is_at, Place}
use Rattle.sftp_tree.proofs.Imports.{name_cmp, Node, Child, Names, node_at, branch, branch_of, flat_of, AreChildren}
use Rattle.sftp_tree.proofs.Imports.{IsBranch, IsGrafted}
use Rattle.sftp_tree.specs.declared.nodes.Node.TheVariants as nodes
use Rattle.sftp_tree.specs.declared.entries.directories.Dir.TheInside.{Inside}
use Rattle.sftp_tree.specs.declared.entries.directories.Child.TheVariants.{Dir}
use Rattle.sftp_tree.proofs.Nesting.Changes as changes
use Rattle.sftp_tree.proofs.entries.directories.Dir.+take.Goals as goal
use Rattle.sftp_tree.proofs.entries.directories.Dir.+take.Goals.{in-Dir, in-File, in-Link}

-- ---- in the directory itself

pub invariant_of-self : goal.invariant_of-self
invariant_of-self t c =
    changes.updated-children c.self.inside.children c.remove.new.self c.args.name.now None c.self.invariant
    c.remove.ensures.updates c.remove.ensures.ordered tt

pub returns-in_default-clause-left : goal.returns-in_default-clause-left
returns-in_default-clause-left t c =
    changes.updated-grafted c.args.self.now c.self.inside.owner c.self.inside.children c.remove.new.self
    (c.args.parent.now ++ c.args.name.now ∷ []) c.args.name.now None c.self.view_is c.self.invariant
    (invariant_of-self t c) c.remove.ensures.updates
    (ap (λ (place : Place). place ++ c.args.name.now ∷ []) (changes.no-names c.args.parent.now c.in_default.ensures.cases))

pub returns-in_default-clause-gone : goal.returns-in_default-clause-gone
returns-in_default-clause-gone t c rest =
    sym (changes.found-below c.args.self.now c.self.inside.owner c.self.inside.children.entries
    (c.args.parent.now ++ c.args.name.now ∷ rest) c.args.name.now rest c.remove.result c.self.view_is c.self.invariant
    (ap (λ (place : Place). place ++ c.args.name.now ∷ rest) (changes.no-names c.args.parent.now c.in_default.ensures.cases))
    c.remove.ensures.value)

pub returns-in_default-clause-whole : goal.returns-in_default-clause-whole
returns-in_default-clause-whole t c =
    changes.found-branch c.self.inside.children.entries (is_at (name_cmp c.args.name.now)) c.remove.result
    c.self.invariant.1 c.remove.ensures.value

-- ---- below a child

pub returns-in_default-get_mut-clause-gone : goal.returns-in_default-get_mut-clause-gone
returns-in_default-get_mut-clause-gone t c rest = changes.nothing-absent rest
    ∙ sym (changes.nothing-absent (c.in-Some.rest.now ++ c.args.name.now ∷ rest))
    ∙ sym (changes.found-below c.args.self.now c.self.inside.owner c.self.inside.children.entries
    (c.args.parent.now ++ c.args.name.now ∷ rest) c.in-Some.first.now (c.in-Some.rest.now ++ c.args.name.now ∷ rest)
    None c.self.view_is c.self.invariant
    (ap (λ (place : Place). place ++ c.args.name.now ∷ rest) c.in-Some.ensures.cases.0)
    c.in_default-get_mut.ensures.value)

pub returns-in_default-get_mut-clause-left : goal.returns-in_default-get_mut-clause-left
returns-in_default-get_mut-clause-left t c =
    changes.taken-nothing c.args.self.now c.self.inside.owner c.self.inside.children c.get_mut.follows.lender-at-none
    c.args.parent.now c.args.name.now c.self.view_is c.self.invariant
    (ap (λ b. b.entries) c.get_mut.follows.holds-at-none)
    (λ rest. sym (returns-in_default-get_mut-clause-gone t c rest))

found : (t : ℕ) (c : goal.Joined-inner t) (rest : Place)
    → node_at c.args.self.now (c.args.parent.now ++ c.args.name.now ∷ rest)
    ≡ node_at (branch c.in-Some-get_mut.inner.now) (c.in-Some.rest.now ++ c.args.name.now ∷ rest)
found t c rest = changes.found-below c.args.self.now c.self.inside.owner c.self.inside.children.entries
    (c.args.parent.now ++ c.args.name.now ∷ rest) c.in-Some.first.now (c.in-Some.rest.now ++ c.args.name.now ∷ rest)
    (Some c.in-Some-get_mut.inner.now) c.self.view_is c.self.invariant
    (ap (λ (place : Place). place ++ c.args.name.now ∷ rest) c.in-Some.ensures.cases.0) c.in-Some-get_mut.ensures.value

whole : (t : ℕ) (c : goal.Joined-inner t) → IsBranch c.in-Some-get_mut.inner.now
whole t c =
    changes.found-child c.self.inside.children.entries (is_at (name_cmp c.in-Some.first.now)) c.in-Some-get_mut.inner.now
    c.self.invariant.1 (sym c.in-Some-get_mut.ensures.value)

-- through a directory
still : (t : ℕ) (c : goal.Joined-inner t) (names after : Names) → c.in-Some-get_mut.inner.now ≡ Dir names
    → IsGrafted (c.in-Some.rest.now ++ c.args.name.now ∷ []) names after [] → IsBranch (Dir after)
still t c names after is inner =
    changes.still-branch names after [] c.in-Some.rest.now c.args.name.now (subst IsBranch is (whole t c)) inner

through : (t : ℕ) (c : goal.Joined-inner t) (child' : Child) → IsBranch child'
    → AreChildren (c.get_mut.follows.lender child').entries
through t c child' branch =
    changes.written-children c.self.inside.children (c.get_mut.follows.lender child') c.in-Some.first.now
    c.in-Some-get_mut.inner.now child' c.self.invariant (sym c.in-Some-get_mut.ensures.value) branch
    (c.get_mut.follows.holds child')

-- below a name of a file, or a link, there is nothing
nothing : (t : ℕ) (c : goal.Joined-inner t) (node : Node) → branch c.in-Some-get_mut.inner.now ≡ ([], node) ∷ []
    → (rest : Place)
    → node_at c.args.self.now (c.args.parent.now ++ c.args.name.now ∷ rest) ≡ node_at (branch_of None) rest
nothing t c node leaf rest = found t c rest
    ∙ ap (λ (names : Names). node_at names (c.in-Some.rest.now ++ c.args.name.now ∷ rest)) leaf
    ∙ changes.nothing-below node c.in-Some.rest.now c.args.name.now rest ∙ sym (changes.nothing-absent rest)

unchanged : (t : ℕ) (c : goal.Joined-inner t) (node : Node) → branch c.in-Some-get_mut.inner.now ≡ ([], node) ∷ []
    → IsGrafted (c.args.parent.now ++ c.args.name.now ∷ []) c.args.self.now
    (flat_of c.self.inside.owner (c.get_mut.follows.lender c.in-Some-get_mut.inner.now).entries) []
unchanged t c node leaf = changes.taken-nothing c.args.self.now c.self.inside.owner c.self.inside.children
    (c.get_mut.follows.lender c.in-Some-get_mut.inner.now) c.args.parent.now c.args.name.now c.self.view_is
    c.self.invariant (changes.entries-back c.self.inside.children (c.get_mut.follows.lender c.in-Some-get_mut.inner.now)
    c.in-Some.first.now c.in-Some-get_mut.inner.now c.in-Some-get_mut.inner.now
    (sym c.in-Some-get_mut.ensures.value) refl (c.get_mut.follows.holds c.in-Some-get_mut.inner.now))
    (nothing t c node leaf)

pub invariant_of-self-2 : goal.invariant_of-self-2
invariant_of-self-2 t c =
    elim c.match-inner.branch [
      | in-Dir w ↦ subst (λ (inside : Inside). AreChildren inside.children.entries) (sym w.self-inside-is)
          (through t c (Dir w.take.new.self) (still t c w.in-Dir.dir w.take.new.self w.in-Dir.is w.take.ensures.left))
      | in-File w ↦ subst (λ (inside : Inside). AreChildren inside.children.entries) (sym w.self-inside-is)
          (through t c c.in-Some-get_mut.inner.now (whole t c))
      | in-Link w ↦ subst (λ (inside : Inside). AreChildren inside.children.entries) (sym w.self-inside-is)
          (through t c c.in-Some-get_mut.inner.now (whole t c))
    ]

grafted : (t : ℕ) (c : goal.Joined-inner t) (names after : Names) → c.in-Some-get_mut.inner.now ≡ Dir names
    → IsGrafted (c.in-Some.rest.now ++ c.args.name.now ∷ []) names after []
    → IsGrafted (c.args.parent.now ++ c.args.name.now ∷ []) c.args.self.now
    (flat_of c.self.inside.owner (c.get_mut.follows.lender (Dir after)).entries) []
grafted t c names after is inner = changes.written-grafted c.args.self.now c.self.inside.owner c.self.inside.children
    (c.get_mut.follows.lender (Dir after)) (c.args.parent.now ++ c.args.name.now ∷ []) c.in-Some.first.now
    (c.in-Some.rest.now ++ c.args.name.now ∷ []) names after [] c.self.view_is c.self.invariant
    (sym c.in-Some-get_mut.ensures.value ∙ ap Some is) (still t c names after is inner)
    (c.get_mut.follows.holds (Dir after))
    (ap (λ (place : Place). place ++ c.args.name.now ∷ []) c.in-Some.ensures.cases.0) inner

pub returns-clause-left : goal.returns-clause-left
returns-clause-left t c =
    elim c.match-inner.branch [
      | in-Dir w ↦
          subst (λ (inside : Inside). IsGrafted (c.args.parent.now ++ c.args.name.now ∷ []) c.args.self.now (flat_of inside.owner inside.children.entries) []) (sym w.self-inside-is)
          (grafted t c w.in-Dir.dir w.take.new.self w.in-Dir.is w.take.ensures.left)
      | in-File w ↦
          subst (λ (inside : Inside). IsGrafted (c.args.parent.now ++ c.args.name.now ∷ []) c.args.self.now (flat_of inside.owner inside.children.entries) []) (sym w.self-inside-is)
          (unchanged t c (nodes.File w.in-File.field-0) (ap branch w.in-File.is))
      | in-Link w ↦
          subst (λ (inside : Inside). IsGrafted (c.args.parent.now ++ c.args.name.now ∷ []) c.args.self.now (flat_of inside.owner inside.children.entries) []) (sym w.self-inside-is)
          (unchanged t c (nodes.Link w.in-Link.field-0) (ap branch w.in-Link.is))
    ]

pub returns-clause-gone : goal.returns-clause-gone
returns-clause-gone t c rest =
    elim c.match-inner.branch [
      | in-Dir w ↦ ap (λ gone. node_at (branch_of gone) rest) w.result-is ∙ w.take.ensures.gone rest
          ∙ sym (ap (λ child. node_at (branch child) (c.in-Some.rest.now ++ c.args.name.now ∷ rest)) w.in-Dir.is)
          ∙ sym (found t c rest)
      | in-File w ↦ ap (λ gone. node_at (branch_of gone) rest) w.result-is
          ∙ sym (nothing t c (nodes.File w.in-File.field-0) (ap branch w.in-File.is) rest)
      | in-Link w ↦ ap (λ gone. node_at (branch_of gone) rest) w.result-is
          ∙ sym (nothing t c (nodes.Link w.in-Link.field-0) (ap branch w.in-Link.is) rest)
    ]
