-- The changes of nested directories as changes of the table of places.
use Rattle.sftp_tree.proofs.Imports.{◌≡◌, ◌+◌, ◌||◌, Bool, true, false, cond, [], ◌∷◌, ◌++◌, length, drop, Option, Some}
use Rattle.sftp_tree.proofs.Imports.{None, IsTrue, IfSome, inl, inr, refl, sym, ap, subst, ◌∙◌, is_eq, list_any}
use Rattle.sftp_tree.proofs.Imports.{tied_itself, Equal-is, bytes_decides, nat_list_eq_equiv, lists_equiv, cases_Bool}
use Rattle.sftp_tree.proofs.Imports.{and_parts, append-nil, append_assoc, Name, Place, place_cmp, same_bytes, begins}
use Rattle.sftp_tree.proofs.Imports.{is_below, rekeyed, InOrder, get, rekeyed-unique, size-rekeyed, place_cmp-total}
use Rattle.sftp_tree.proofs.Imports.{place_cmp-same, begins-front, begins-itself, without-absent, get-cons, same_table}
use Rattle.sftp_tree.proofs.Imports.{get-put, get-without, InOrder-put, InOrder-without, size-put, size-put_present}
use Rattle.sftp_tree.proofs.Imports.{size-without, same_place, is_root, Node, Child, Names, node_at, with_node}
use Rattle.sftp_tree.proofs.Imports.{without_node, is_taken, is_directory, has_entries, IsAt, branch, branch_of}
use Rattle.sftp_tree.proofs.Imports.{IsBranch, IsGrafted, IsSet, IsMoved}
use Rattle.sftp_tree.specs.declared.entries.directories.Child.TheVariants.{Dir}
use Rattle.sftp_tree.proofs.FileCounts.{nothing-from}
use Rattle.sftp_tree.proofs.Nesting.Changes.{nothing, beside, branch-taken}
use Rattle.sftp_tree.proofs.PlaceTables.{has_entries-below}
use Rattle.sftp_tree.proofs.PlaceTables.{places_tie}
use Rattle.sftp_tree.proofs.WellFormedTrees.{alone-there, below-further}

-- ---- a node that is put

pub set-with : (place : Place) (before after : Names) (node : Node) → InOrder place_cmp before
    → IsSet place before after node → after ≡ with_node before place node
set-with place before after node order set =
    same_table place_cmp place_cmp-total place_cmp-same after (with_node before place node) set.ordered
    (InOrder-put place_cmp place_cmp-total before place node order) (λ at. by at (is_eq (place_cmp at place)) refl
    ∙ sym (get-put place_cmp place_cmp-total before place node at))
  where
    by : (at : Place) (b : Bool) → is_eq (place_cmp at place) ≡ b → node_at after at ≡ cond b (Some node) (node_at before at)
    by at true same = ap (node_at after) (place_cmp-same at place ((Equal-is (place_cmp at place)).0 same)) ∙ set.here
    by at false apart =
        set.elsewhere at ((lists_equiv nat_list_eq_equiv).symm at place ∙ sym (places_tie at place) ∙ apart)

-- nothing was there before
free : (gone : Option Child) → IfSome gone IsBranch → node_at (branch_of gone) [] ≡ None → gone ≡ None
free None whole none = refl
free (Some child) whole none = let it : is_taken (node_at (branch child) []) ≡ false = ap is_taken none in let taken = branch-taken child whole in cc

alone-here : (node : Node) → node_at (([], node) ∷ []) [] ≡ Some node
unfolding get
alone-here node = refl

alone-further : (node : Node) (rest : Place) → (rest ≡ [] → ⊥) → node_at (([], node) ∷ []) rest ≡ None
unfolding get
alone-further node [] more = absurd (more refl)
alone-further node (n ∷ ns) more = refl

not-there : (place other rest : Place) → other ≡ place ++ rest → rest ≡ [] → same_place other place ≡ false → ⊥
not-there place other rest is empty apart =
    let one : other ≡ place = is ∙ ap (λ (x : Place). place ++ x) empty ∙ append-nil place in
    let same : same_place other place ≡ true = ap (λ (x : Place). same_place x place) one ∙ (lists_equiv nat_list_eq_equiv).refl place in
    cc

pub put-set : (place : Place) (before after : Names) (node : Node) (gone : Option Child)
    → node_at before place ≡ None → IsGrafted place before after (([], node) ∷ [])
    → ((rest : Place) → node_at (branch_of gone) rest ≡ node_at before (place ++ rest)) → IfSome gone IsBranch
    → IsSet place before after node
put-set place before after node gone absent g was whole =
    record { here = here; elsewhere = elsewhere; ordered = g.ordered }
  where
    here : node_at after place ≡ Some node
    here = sym (ap (node_at after) (append-nil place)) ∙ g.there [] ∙ alone-here node

    none : (rest : Place) → node_at before (place ++ rest) ≡ None
    none rest = sym (was rest)
        ∙ ap (λ o. node_at (branch_of o) rest) (free gone whole (was [] ∙ ap (node_at before) (append-nil place) ∙ absent))
        ∙ nothing rest

    elsewhere : (other : Place) → same_place other place ≡ false → node_at after other ≡ node_at before other
    elsewhere other apart =
        elim (cases_Bool (begins place other)) [
          | inl inside ↦
              let is : other ≡ place ++ drop (length place) other = begins-front place other inside in
              ap (node_at after) is ∙ g.there (drop (length place) other)
              ∙ alone-further node (drop (length place) other)
              (λ empty. not-there place other (drop (length place) other) is empty apart)
              ∙ sym (none (drop (length place) other)) ∙ ap (node_at before) (sym is)
          | inr outside ↦ g.elsewhere other outside
        ]

still-there : (found : Option Node) → IsTrue (is_directory found) → (node : Node) × (found ≡ Some node)
still-there None directory = cc
still-there (Some node) directory = (node, refl)

pub set-length : (place : Place) (before after : Names) (node : Node) → InOrder place_cmp before
    → IsTrue (is_directory (node_at before place)) → IsSet place before after node → length after ≡ length before
set-length place before after node order directory set =
    let old = still-there (node_at before place) directory in
    ap length (set-with place before after node order set)
    ∙ size-put_present place_cmp place_cmp-total before place node old.0 order old.1

-- ---- a node that is removed

without-other : (before : Names) (place at : Place) → InOrder place_cmp before → begins place at ≡ false
    → node_at (without_node before place) at ≡ node_at before at
without-other before place at order apart =
    get-without place_cmp place_cmp-total before place at order ∙ by (is_eq (place_cmp place at)) refl
  where
    by : (b : Bool) → is_eq (place_cmp place at) ≡ b → cond b None (node_at before at) ≡ node_at before at
    by true same =
        let is : place ≡ at = place_cmp-same place at ((Equal-is (place_cmp place at)).0 same) in
        let begun : begins place at ≡ true = ap (begins place) (sym is) ∙ begins-itself place in
        cc
    by false differ = refl

pub taken-without : (place : Place) (before after : Names) → InOrder place_cmp before
    → ((n : Name) (ns : Place) → node_at before (place ++ n ∷ ns) ≡ None) → IsGrafted place before after []
    → after ≡ without_node before place
taken-without place before after order alone g =
    same_table place_cmp place_cmp-total place_cmp-same after (without_node before place) g.ordered
    (InOrder-without place_cmp before place order) alike
  where
    alike : (at : Place) → node_at after at ≡ node_at (without_node before place) at
    alike at =
        elim (cases_Bool (begins place at)) [
          | inl inside ↦
              let is : at ≡ place ++ drop (length place) at = begins-front place at inside in
              ap (node_at after) is ∙ g.there (drop (length place) at) ∙ nothing (drop (length place) at)
              ∙ sym (nothing-from before place order alone (drop (length place) at))
              ∙ ap (node_at (without_node before place)) (sym is)
          | inr outside ↦ g.elsewhere at outside ∙ sym (without-other before place at order outside)
        ]

found-node : (found : Option Node) → is_taken found ≡ true → (node : Node) × (found ≡ Some node)
found-node None taken = cc
found-node (Some node) taken = (node, refl)

pub length-without_one : (place : Place) (before : Names) → is_taken (node_at before place) ≡ true
    → length (without_node before place) + 1 ≡ length before
length-without_one place before taken =
    let one = found-node (node_at before place) taken in
    size-without place_cmp before place one.0 one.1

pub length-without_none : (place : Place) (before : Names) → None ≡ node_at before place
    → length (without_node before place) ≡ length before
length-without_none place before none = ap length (without-absent place_cmp before place (sym none))

-- ---- what was there

pub gone-none : (was_there : Option Child) (found : Option Node) → was_there ≡ None → node_at (branch_of was_there) [] ≡ found
    → None ≡ found
gone-none was_there found is was = sym (ap (λ o. node_at (branch_of o) []) is ∙ nothing []) ∙ was

pub gone-some : (was_there : Option Child) (child : Child) (found : Option Node) → was_there ≡ Some child → IfSome was_there IsBranch
    → node_at (branch_of was_there) [] ≡ found → is_taken found ≡ true
gone-some was_there child found is whole was = ap is_taken (sym was ∙ ap (λ o. node_at (branch_of o) []) is)
    ∙ branch-taken child (subst (λ o. IfSome o IsBranch) is whole)

-- ---- what is below a place

below-split : (p q : Place) → is_below p q ≡ true → (n : Name) × (ns : Place) × (q ≡ p ++ n ∷ ns)
below-split [] [] below = cc
below-split [] (n ∷ ns) below = (n, ns, refl)
below-split (m ∷ ms) [] below = cc
below-split (m ∷ ms) (n ∷ ns) below =
    let parts = and_parts (same_bytes m n) (is_below ms ns) below in
    let rest = below-split ms ns parts.1 in
    let same : m ≡ n = (bytes_decides m n).0 parts.0 in
    (rest.0, rest.1, λ i. sym same i ∷ rest.2 i)

later-taken : (b : Bool) (node : Node) (found : Option Node) → is_taken found ≡ true
    → is_taken (cond b (Some node) found) ≡ true
later-taken true node found taken = refl
later-taken false node found taken = taken

some-below : (es : Names) (p : Place) → list_any (λ e. is_below p e.0) es ≡ true
    → (n : Name) × (ns : Place) × (is_taken (node_at es (p ++ n ∷ ns)) ≡ true)
some-below [] p has = cc
some-below (e ∷ es) p has =
    elim (cases_Bool (is_below p e.0)) [
      | inl below ↦
          let split = below-split p e.0 below in (
            split.0,
            split.1,
            ap (λ (q : Place). is_taken (node_at (e ∷ es) q)) (sym split.2) ∙ ap is_taken (get-cons place_cmp e es e.0
                ∙ ap (λ o. cond (is_eq o) (Some e.1) (node_at es e.0)) (tied_itself place_cmp-total e.0)),
          )
      | inr apart ↦
          let rest = some-below es p (ap (λ b. b || list_any (λ e. is_below p e.0) es) (sym apart) ∙ has) in (
            rest.0,
            rest.1,
            ap is_taken (get-cons place_cmp e es (p ++ rest.0 ∷ rest.1))
                ∙ later-taken (is_eq (place_cmp (p ++ rest.0 ∷ rest.1) e.0)) e.1 (node_at es (p ++ rest.0 ∷ rest.1)) rest.2,
          )
    ]

pub found-below : (es : Names) (p : Place) → has_entries es p ≡ true
    → (n : Name) × (ns : Place) × (is_taken (node_at es (p ++ n ∷ ns)) ≡ true)
unfolding has_entries
found-below = some-below

not-both : (found : Option Node) → is_taken found ≡ true → found ≡ None → ⊥
not-both found taken none = let it : is_taken found ≡ false = ap is_taken none in cc

-- what is below a place is what the directory there has below it
pub has_entries-alike : (es fs : Names) (p : Place) → IsAt es p fs → has_entries fs [] ≡ has_entries es p
has_entries-alike es fs p alike =
    elim (cases_Bool (has_entries fs [])) [
      | inl some ↦
          let found = found-below fs [] some in
          some ∙ sym (has_entries-below p (p ++ found.0 ∷ found.1) es (below-further p found.0 found.1)
          (ap is_taken (sym (alike (found.0 ∷ found.1))) ∙ found.2))
      | inr none ↦
          elim (cases_Bool (has_entries es p)) [
            | inl some ↦
                let found = found-below es p some in
                absurd (not-both (node_at es (p ++ found.0 ∷ found.1)) found.2
                (sym (alike (found.0 ∷ found.1)) ∙ alone-there fs [] none found.0 found.1))
            | inr other ↦ none ∙ sym other
          ]
    ]

-- ---- a node that moves

-- a place with nothing below it begins no other one that is taken
pub not-above : (names : Names) (old new : Place) → IsTrue (is_taken (node_at names old)) → begins old new ≡ false
    → has_entries names new ≡ false → begins new old ≡ false
not-above names old new taken apart alone =
    elim (cases_Bool (begins new old)) [
      | inl above ↦ absurd (by (drop (length new) old) (begins-front new old above))
      | inr beside ↦ beside
    ]
  where
    by : (rest : Place) → old ≡ new ++ rest → ⊥
    by [] is =
        let same : old ≡ new = is ∙ append-nil new in
        let begun : begins old new ≡ true = ap (λ (x : Place). begins x new) same ∙ begins-itself new in
        cc
    by (n ∷ ns) is = not-both (node_at names old) taken (ap (node_at names) is ∙ alone-there names new alone n ns)

-- the root is neither at another place nor below it
pub below-root : (place : Place) → is_root place ≡ false → begins place [] ≡ false
below-root [] below = cc
below-root (n ∷ ns) below = refl

pub moved-branch : (old new : Place) (before after : Names) → is_root old ≡ false → is_root new ≡ false
    → IsBranch (Dir before) → IsMoved old new before after → IsBranch (Dir after)
moved-branch old new before after below_old below_new h m =
    (m.ordered, subst (λ o. IsTrue (is_directory o)) (sym (m.elsewhere [] (below-root old below_old) (below-root new below_new))) h.1)

pub moved-rekeyed : (old new : Place) (before after : Names) → InOrder place_cmp before → begins old new ≡ false
    → begins new old ≡ false → ((n : Name) (ns : Place) → node_at before (new ++ n ∷ ns) ≡ None)
    → IsMoved old new before after → after ≡ rekeyed old new (without_node before new)
moved-rekeyed old new before after order apart other_way alone m =
    rekeyed-unique old new (without_node before new) after m.ordered (nothing-from before new order alone)
    (λ rest. m.there rest ∙ sym (without-other before new (old ++ rest) order (beside new old rest other_way apart)))
    (λ place in_old not_new. ap (node_at after) (begins-front old place in_old) ∙ m.left (drop (length old) place))
    (λ place not_old not_new. m.elsewhere place not_old not_new ∙ sym (without-other before new place order not_new))

pub moved-length : (old new : Place) (before after : Names) → InOrder place_cmp before → begins old new ≡ false
    → begins new old ≡ false → ((n : Name) (ns : Place) → node_at before (new ++ n ∷ ns) ≡ None)
    → IsMoved old new before after → length after ≡ length (without_node before new)
moved-length old new before after order apart other_way alone m =
    ap length (moved-rekeyed old new before after order apart other_way alone m)
    ∙ size-rekeyed old new (without_node before new) (InOrder-without place_cmp before new order)
    (nothing-from before new order alone)

-- ---- the same, of the entries, which see the root and the count

module _ (self root after : Names) (place parent : Place) (name : Name) (view : root ≡ self)
    (is : place ≡ parent ++ name ∷ []) (h : IsBranch (Dir root)) where
  removed-alone : has_entries self place ≡ false → (n : Name) (ns : Place) → node_at root (place ++ n ∷ ns) ≡ None
  removed-alone empty = alone-there root place (ap (λ (names : Names). has_entries names place) view ∙ empty)

  removed-at : IsGrafted (parent ++ name ∷ []) root after [] → IsGrafted place root after []
  removed-at = subst (λ (x : Place). IsGrafted x root after []) (sym is)

  removed-from : has_entries self place ≡ false → IsGrafted (parent ++ name ∷ []) root after []
      → after ≡ without_node root place
  removed-from empty g = taken-without place root after h.0 (removed-alone empty) (removed-at g)

  pub removed-left : has_entries self place ≡ false → IsGrafted (parent ++ name ∷ []) root after []
      → after ≡ without_node self place
  removed-left empty g = removed-from empty g ∙ ap (λ (names : Names). without_node names place) view

  removed-was : (was_there : Option Child)
      → ((rest : Place) → node_at (branch_of was_there) rest ≡ node_at root (parent ++ name ∷ rest))
      → node_at (branch_of was_there) [] ≡ node_at root place
  removed-was was_there was = was [] ∙ ap (node_at root) (sym is)

  pub removed-one : (was_there : Option Child) (child : Child) → has_entries self place ≡ false
      → IsGrafted (parent ++ name ∷ []) root after []
      → ((rest : Place) → node_at (branch_of was_there) rest ≡ node_at root (parent ++ name ∷ rest))
      → IfSome was_there IsBranch → was_there ≡ Some child → length after + 1 ≡ length root
  removed-one was_there child empty g was whole found = ap (λ (names : Names). length names + 1) (removed-from empty g)
      ∙ length-without_one place root
      (gone-some was_there child (node_at root place) found whole (removed-was was_there was))

  pub removed-none : (was_there : Option Child) → has_entries self place ≡ false
      → IsGrafted (parent ++ name ∷ []) root after []
      → ((rest : Place) → node_at (branch_of was_there) rest ≡ node_at root (parent ++ name ∷ rest))
      → was_there ≡ None → length after ≡ length root
  removed-none was_there empty g was found = ap length (removed-from empty g) ∙ length-without_none place root
      (gone-none was_there (node_at root place) found (removed-was was_there was))

  pub removed-nothing : (was_there : Option Child)
      → ((rest : Place) → node_at (branch_of was_there) rest ≡ node_at root (parent ++ name ∷ rest))
      → was_there ≡ None → None ≡ node_at self place
  removed-nothing was_there was found = gone-none was_there (node_at root place) found (removed-was was_there was)
      ∙ ap (λ (names : Names). node_at names place) view

  pub put-in : (node : Node) (was_there : Option Child) (copy : Name) (grafted : Names) → copy ≡ name
      → grafted ≡ ([], node) ∷ [] → node_at self place ≡ None → IsGrafted (parent ++ copy ∷ []) root after grafted
      → ((rest : Place) → node_at (branch_of was_there) rest ≡ node_at root (parent ++ copy ∷ rest))
      → IfSome was_there IsBranch → IsSet place root after node
  put-in node was_there copy grafted same leaf absent g was whole =
      put-set place root after node was_there (ap (λ (names : Names). node_at names place) view ∙ absent)
      (subst (λ (x : Place). IsGrafted x root after (([], node) ∷ [])) (ap (λ (n : Name). parent ++ n ∷ []) same ∙ sym is) (subst (λ (x : Names). IsGrafted (parent ++ copy ∷ []) root after x) leaf g))
      (λ rest. was rest ∙ ap (λ (n : Name). node_at root (parent ++ n ∷ rest)) same
      ∙ ap (node_at root) (sym (append_assoc parent (name ∷ []) rest))
      ∙ ap (λ (x : Place). node_at root (x ++ rest)) (sym is)) whole

  pub put-is : (node : Node) → IsSet place root after node → after ≡ with_node self place node
  put-is node set = set-with place root after node h.0 set ∙ ap (λ (names : Names). with_node names place node) view

  pub put-more : (node : Node) → node_at self place ≡ None → IsSet place root after node
      → length root + 1 ≡ length after
  put-more node absent set = sym (ap length (set-with place root after node h.0 set)
      ∙ size-put place_cmp root place node (ap (λ (names : Names). node_at names place) view ∙ absent))

module _ (self root after : Names) (old new : Place) (view : root ≡ self) (h : IsBranch (Dir root))
    (taken : IsTrue (is_taken (node_at self old))) (apart : begins old new ≡ false)
    (alone : has_entries self new ≡ false) (m : IsMoved old new root after) where
  moved-other : begins new old ≡ false
  moved-other = not-above self old new taken apart alone

  moved-alone : (n : Name) (ns : Place) → node_at root (new ++ n ∷ ns) ≡ None
  moved-alone = alone-there root new (ap (λ (names : Names). has_entries names new) view ∙ alone)

  pub moved-is : after ≡ rekeyed old new (without_node self new)
  moved-is = moved-rekeyed old new root after h.0 apart moved-other moved-alone m
      ∙ ap (λ (names : Names). rekeyed old new (without_node names new)) view

  pub moved-one : (was_there : Option Child) (child : Child) → node_at (branch_of was_there) [] ≡ node_at root new
      → IfSome was_there IsBranch → was_there ≡ Some child → length after + 1 ≡ length root
  moved-one was_there child was whole found =
      ap (λ n. n + 1) (moved-length old new root after h.0 apart moved-other moved-alone m)
      ∙ length-without_one new root (gone-some was_there child (node_at root new) found whole was)

  pub moved-none : (was_there : Option Child) → node_at (branch_of was_there) [] ≡ node_at root new
      → was_there ≡ None → length after ≡ length root
  moved-none was_there was found = moved-length old new root after h.0 apart moved-other moved-alone m
      ∙ length-without_none new root (gone-none was_there (node_at root new) found was)
