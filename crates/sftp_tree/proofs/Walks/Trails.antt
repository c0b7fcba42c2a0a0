-- The directories from the root to where a walk stands.
use Rattle.sftp_tree.proofs.Imports.{◌≡◌, ℕ, ◌-◌, suc, List, [], ◌∷◌, ◌++◌, length, take, append-nil, append_assoc}
use Rattle.sftp_tree.proofs.Imports.{arith, refl, sym, ap, subst, ◌∙◌, Option, Some, None, option_copied, Bor, Name}
use Rattle.sftp_tree.proofs.Imports.{Place, parent, get, Owner, Child, Names, node_at, branch, branch_of, Standing}
use Rattle.sftp_tree.proofs.Imports.{IsAt, root_of, AreAlong, DescendTo, IsLentAt}
use Rattle.sftp_tree.specs.declared.nodes.Node.TheVariants as nodes
use Rattle.sftp_tree.specs.declared.entries.directories.Child.TheVariants as children
use Rattle.sftp_tree.specs.declared.entries.seen.Seen.TheVariants.{Dir, File, Link}

-- a directory more at the end
root_of-push : (above : List (Bor Names)) (last here : Bor Names)
    → root_of (above ++ last ∷ []) here ≡ root_of above last
root_of-push [] last here = refl
root_of-push (dir ∷ above) last here = refl

-- the directory where the walk stands is the one at its place
along-here : (above : List (Bor Names)) (at : Place) (here : Bor Names) → AreAlong above at here
    → IsAt (root_of above here).now at here.now
along-here [] [] here along rest = refl
along-here [] (name ∷ names) here along rest = elim along [ ]
along-here (dir ∷ above) [] here along rest = elim along [ ]
along-here (dir ∷ above) (name ∷ names) here along rest =
    along-here above names here along.1 rest ∙ along.0 (names ++ rest)

pub lead-here : (root : Bor Names) (between : List (Bor Names)) (at : Place) (here : Bor Names)
    → DescendTo root between at here → IsAt root.now at here.now
lead-here root between [] here lead rest = ap (λ (dir : Bor Names). node_at dir.now rest) lead.1
lead-here root between (name ∷ names) here lead rest = along-here (root ∷ between) (name ∷ names) here lead rest

-- a child at its name
lead-child : (root : Bor Names) (between : List (Bor Names)) (at : Place) (here : Bor Names) (name : Name)
    (rest : Place) → DescendTo root between at here
    → node_at root.now ((at ++ name ∷ []) ++ rest) ≡ node_at here.now (name ∷ rest)
lead-child root between at here name rest lead = ap (node_at root.now) (append_assoc at (name ∷ []) rest)
    ∙ sym (lead-here root between at here lead (name ∷ rest))

-- one name down
along-push : (above : List (Bor Names)) (at : Place) (here child : Bor Names) (name : Name) → AreAlong above at here
    → IsAt here.now (name ∷ []) child.now → AreAlong (above ++ here ∷ []) (at ++ name ∷ []) child
along-push [] [] here child name along is = (is, tt)
along-push [] (first ∷ names) here child name along is = elim along [ ]
along-push (dir ∷ above) [] here child name along is = elim along [ ]
along-push (dir ∷ above) (first ∷ names) here child name along is = (
  subst (λ (inner : Bor Names). IsAt dir.now (first ∷ []) inner.now) (sym (root_of-push above here child)) along.0,
  along-push above names here child name along.1 is,
)

-- from the root
first-down : (root : Bor Names) (between : List (Bor Names)) (at : Place) (here child : Bor Names) (name : Name)
    → DescendTo root between at here → IsAt root.now (at ++ name ∷ []) child.now → length at ≡ 0
    → DescendTo root between (at ++ name ∷ []) child
first-down root between [] here child name lead is none =
    subst (λ dirs. DescendTo root dirs (name ∷ []) child) (sym lead.0) (is, tt)
first-down root between (first ∷ names) here child name lead is none = absurd (omega (arith, none))

-- from a directory below
further-down : (root : Bor Names) (between : List (Bor Names)) (at : Place) (here child : Bor Names) (name : Name)
    → DescendTo root between at here → IsAt root.now (at ++ name ∷ []) child.now → (length at ≡ 0 → ⊥)
    → DescendTo root (between ++ here ∷ []) (at ++ name ∷ []) child
further-down root between [] here child name lead is some = elim (some refl) [ ]
further-down root between (first ∷ names) here child name lead is some =
    along-push (root ∷ between) (first ∷ names) here child name lead
    (λ rest. is rest ∙ lead-child root between (first ∷ names) here name rest lead)

pub lead-first : (root : Bor Names) (between : List (Bor Names)) (at after : Place) (here child : Bor Names)
    (name : Name) → DescendTo root between at here → IsAt root.now (at ++ name ∷ []) child.now → length at ≡ 0
    → after ≡ at ++ name ∷ [] → DescendTo root between after child
lead-first root between at after here child name lead is none entered =
    subst (λ place. DescendTo root between place child) (sym entered)
    (first-down root between at here child name lead is none)

pub lead-further : (root : Bor Names) (between longer : List (Bor Names)) (at after : Place) (here child : Bor Names)
    (name : Name) → DescendTo root between at here → IsAt root.now (at ++ name ∷ []) child.now → (length at ≡ 0 → ⊥)
    → after ≡ at ++ name ∷ [] → longer ≡ between ++ here ∷ [] → DescendTo root longer after child
lead-further root between longer at after here child name lead is some entered pushed =
    subst (λ place. DescendTo root longer place child) (sym entered)
    (subst (λ dirs. DescendTo root dirs (at ++ name ∷ []) child) (sym pushed)
    (further-down root between at here child name lead is some))

-- one name up
parent-cons : (first second : Name) (names : Place) → parent (first ∷ second ∷ names) ≡ first ∷ parent (second ∷ names)
parent-cons first second names =
    let longer : length (first ∷ second ∷ names) - 1 ≡ suc (length (second ∷ names) - 1) = omega arith in
    ap (λ n. take n (first ∷ second ∷ names)) longer

along-pop : (above : List (Bor Names)) (at : Place) (last here : Bor Names)
    → AreAlong (above ++ last ∷ []) at here → AreAlong above (parent at) last
along-pop [] [] last here along = elim along [ ]
along-pop [] (name ∷ []) last here along = tt
along-pop [] (first ∷ second ∷ names) last here along = elim along.1 [ ]
along-pop (dir ∷ above) [] last here along = elim along [ ]
along-pop (dir ∷ []) (name ∷ []) last here along = elim along.1 [ ]
along-pop (dir ∷ next ∷ above) (name ∷ []) last here along = elim along.1 [ ]
along-pop (dir ∷ above) (first ∷ second ∷ names) last here along =
    subst (λ place. AreAlong (dir ∷ above) place last) (sym (parent-cons first second names)) (
      subst (λ (inner : Bor Names). IsAt dir.now (first ∷ []) inner.now) (root_of-push above last here) along.0,
      along-pop above (second ∷ names) last here along.1,
    )

along-lead : (root : Bor Names) (between : List (Bor Names)) (at : Place) (here : Bor Names)
    → AreAlong (root ∷ between) at here → DescendTo root between at here
along-lead root between [] here along = elim along [ ]
along-lead root between (name ∷ names) here along = along

-- to a directory that is not the root
up-between : (root : Bor Names) (between : List (Bor Names)) (at : Place) (last here : Bor Names)
    → DescendTo root (between ++ last ∷ []) at here → DescendTo root between (parent at) last
up-between root [] [] last here lead = absurd (let none : last ∷ [] ≡ [] = lead.0 in cc)
up-between root (dir ∷ between) [] last here lead =
    absurd (let none : dir ∷ (between ++ last ∷ []) ≡ [] = lead.0 in cc)
up-between root between (name ∷ names) last here lead =
    along-lead root between (parent (name ∷ names)) last (along-pop (root ∷ between) (name ∷ names) last here lead)

-- to the root, or at the root
up-to-root : (root : Bor Names) (at : Place) (here : Bor Names) → DescendTo root [] at here → DescendTo root [] (parent at) root
up-to-root root [] here lead = (refl, refl)
up-to-root root (name ∷ []) here lead = (refl, refl)
up-to-root root (first ∷ second ∷ names) here lead = elim lead.1 [ ]

pub lead-up : (root : Bor Names) (between shorter : List (Bor Names)) (at after : Place) (last here : Bor Names)
    → DescendTo root between at here → between ≡ shorter ++ last ∷ [] → after ≡ parent at → DescendTo root shorter after last
lead-up root between shorter at after last here lead popped leaves =
    subst (λ place. DescendTo root shorter place last) (sym leaves)
    (up-between root shorter at last here (subst (λ dirs. DescendTo root dirs at here) popped lead))

pub lead-up-to-root : (root : Bor Names) (between shorter : List (Bor Names)) (at after : Place) (here : Bor Names)
    → DescendTo root between at here → between ≡ [] → shorter ≡ [] → after ≡ parent at → DescendTo root shorter after root
lead-up-to-root root between shorter at after here lead none empty leaves =
    subst (λ place. DescendTo root shorter place root) (sym leaves)
    (subst (λ dirs. DescendTo root dirs (parent at) root) (sym empty)
    (up-to-root root at here (subst (λ dirs. DescendTo root dirs at here) none lead)))

-- at the root
pub lead-root : (root : Bor Names) (between : List (Bor Names)) (at : Place) → between ≡ [] → at ≡ []
    → DescendTo root between at root
lead-root root between [] none is = (none, refl)
lead-root root between (name ∷ names) none is = absurd cc

-- the table of a child is the one at its place
pub lead-found : (standing : Standing) (root : Bor Names) (between : List (Bor Names)) (at : Place) (here : Bor Names)
    (name : Name) (child : Names) → record { names = root.now; at = at } ≡ standing → DescendTo root between at here
    → ((rest : Place) → node_at here.now (name ∷ rest) ≡ node_at child rest)
    → IsAt standing.names (standing.at ++ name ∷ []) child
lead-found standing root between at here name child seen lead below rest =
    sym (below rest) ∙ sym (lead-child root between at here name rest lead)
    ∙ ap (λ (s : Standing). node_at s.names ((s.at ++ name ∷ []) ++ rest)) seen

-- ---- what is lent

-- what stands at a place is what the table that is there has first
at-top : (names : Names) (place : Place) (inner : Names) → IsAt names place inner
    → node_at inner [] ≡ node_at names place
at-top names place inner is = is [] ∙ ap (node_at names) (append-nil place)

pub lent-directory : (names : Names) (place : Place) (owner : Owner) (dir : Bor Names) → IsAt names place dir.now
    → node_at dir.now [] ≡ Some (nodes.Dir owner) → IsLentAt names place (Some (Dir owner dir))
lent-directory names place owner dir is root = record { node = sym root ∙ at-top names place dir.now is; below = is }

-- the table of a child that was found
pub found-branch : (found : Option (Bor Child)) (child : Bor Child) (is_child : Child) → found ≡ Some child
    → child.now ≡ is_child → branch_of (option_copied found) ≡ branch is_child
found-branch found child is_child some is = ap (λ o. branch_of (option_copied o)) some ∙ ap branch is

pub lent-dir : (names : Names) (place : Place) (found : Option (Bor Child)) (child : Bor Child) (owner : Owner)
    (dir : Bor Names) → IsAt names place (branch_of (option_copied found)) → found ≡ Some child
    → child.now ≡ children.Dir dir.now → node_at dir.now [] ≡ Some (nodes.Dir owner) → IsLentAt names place (Some (Dir owner dir))
lent-dir names place found child owner dir is some is_dir root = lent-directory names place owner dir
    (subst (IsAt names place) (found-branch found child (children.Dir dir.now) some is_dir) is) root

pub lent-file : (names : Names) (place : Place) (found : Option (Bor Child)) (child : Bor Child) (number : ℕ)
    → IsAt names place (branch_of (option_copied found)) → found ≡ Some child → child.now ≡ children.File number
    → IsLentAt names place (Some (File number))
unfolding get
lent-file names place found child number is some is_file = record {
  node = ap (λ table. node_at table []) (sym (found-branch found child (children.File number) some is_file))
      ∙ at-top names place (branch_of (option_copied found)) is;
  below = tt;
}

pub lent-link : (names : Names) (place : Place) (found : Option (Bor Child)) (child : Bor Child) (target : Bor (List ℕ))
    → IsAt names place (branch_of (option_copied found)) → found ≡ Some child → child.now ≡ children.Link target.now
    → IsLentAt names place (Some (Link target))
unfolding get
lent-link names place found child target is some is_link = record {
  node = ap (λ table. node_at table []) (sym (found-branch found child (children.Link target.now) some is_link))
      ∙ at-top names place (branch_of (option_copied found)) is;
  below = tt;
}

pub lent-nothing : (names : Names) (place : Place) (found : Option (Bor Child))
    → IsAt names place (branch_of (option_copied found)) → found ≡ None → IsLentAt names place None
unfolding get
lent-nothing names place found is none = record {
  node = ap (λ o. node_at (branch_of (option_copied o)) []) (sym none)
      ∙ at-top names place (branch_of (option_copied found)) is;
  below = tt;
}
