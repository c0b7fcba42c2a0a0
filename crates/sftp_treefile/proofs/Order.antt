-- The order of entries.
use Rattle.sftp_treefile.proofs.Imports.{◌≡◌, ℕ, ◌-◌, ◌<◌, ◌≤◌, Bool, true, false, ◌&&◌, ◌||◌, List, [], ◌∷◌, ◌++◌}
use Rattle.sftp_treefile.proofs.Imports.{length, take, drop, refl, sym, ap, subst, ◌∙◌, arith, inl, inr, ◌↔◌}
use Rattle.sftp_treefile.proofs.Imports.{and_parts, false≢true, append-nil, length-append, nil_from_length, take_all}
use Rattle.sftp_treefile.proofs.Imports.{Row, place_of, has_dir, IsLast, Follows, common_steps}
use Rattle.std.specs.List.{list_any, AllByRecursion}
use Rattle.std.specs.Ordering.{ordering_then}
use Rattle.std.specs.declared.cmp.Ordering.{Ordering}
use Rattle.std.specs.declared.cmp.Ordering.TheVariants.{Less, Equal, Greater}
use Rattle.std.specs.Cmp.Lexicographic.{lists_equiv, nat_list_eq_equiv, bytes_decides}
use Rattle.std.proofs.lemmas.Bool.{cases_Bool, cases_lt}
use Rattle.std.proofs.lemmas.Cmp.{tied_itself}
use Rattle.std.proofs.lemmas.List.{take-append-drop, take-append-le, take-take, length-take}
use Rattle.std.proofs.lemmas.List.Folds.{list_any-append}
use Rattle.sftp_path.specs.Place.{Place, place_cmp, name_cmp, parent, begins, same_bytes}
use Rattle.sftp_path.proofs.Move.{place_cmp-total, place_cmp-same, bytes_cmp-same, begins-front, begins-append}
use Rattle.sftp_treefile.specs.TreeFile.{same_place, is_root, is_dir, is_dir_at}

-- ==== The last entry decides which may come next.

-- ---- the order of places

no_self : (p : Place) → place_cmp p p ≡ Less → ⊥
no_self p less = let e : Equal ≡ Less = sym (tied_itself place_cmp-total p) ∙ less in cc

-- a place begins what comes between it and a place that it begins
then_both : (o p q : Ordering) → ordering_then o p ≡ Greater → ordering_then o q ≡ Less
    → (o ≡ Equal) × (p ≡ Greater) × (q ≡ Less)
then_both Equal p q g l = (refl, g, l)
then_both other p q g l = absurd cc

pub between : (top last rest : Place) → place_cmp last top ≡ Greater → place_cmp last (top ++ rest) ≡ Less
    → begins top last ≡ true
between [] last rest above below = refl
between (m ∷ ms) [] rest above below = absurd cc
between (m ∷ ms) (n ∷ ns) rest above below =
    let b = then_both (name_cmp n m) (place_cmp ns ms) (place_cmp ns (ms ++ rest)) above below in
    let same : same_bytes m n ≡ true = (bytes_decides m n).1 (sym (bytes_cmp-same n m b.0)) in
    ap (λ v. v && begins ms ns) same ∙ between ms ns rest b.1 b.2

-- ---- directories

same_place_itself : (p : Place) → same_place p p ≡ true
same_place_itself p = (lists_equiv nat_list_eq_equiv).refl p

same_place_is : (p q : Place) → same_place p q ≡ true → p ≡ q
same_place_is [] [] h = refl
same_place_is [] (n ∷ ns) h = absurd (false≢true h)
same_place_is (m ∷ ms) [] h = absurd (false≢true h)
same_place_is (m ∷ ms) (n ∷ ns) h =
    let p = and_parts (same_bytes m n) (same_place ms ns) h in
    let first : m ≡ n = (bytes_decides m n).0 p.0 in
    λ i. first i ∷ same_place_is ms ns p.1 i

and_none : (b c : Bool) → (c ≡ true → ⊥) → (b && c) ≡ false
and_none true true none = absurd (none refl)
and_none b c none = refl

or_left : (b c d : Bool) → (b || c) ≡ true → (b || (c || d)) ≡ true
or_left false false d h = absurd (false≢true h)
or_left b c d h = refl

-- no entry before a place is at it
none_there : (rows : List Row) (place : Place)
    → AllByRecursion (λ (r : Row). place_cmp (place_of r.path) place ≡ Less) rows
    → list_any (is_dir_at place) rows ≡ false
none_there [] place before = refl
none_there (r ∷ rows) place before =
    let here : is_dir_at place r ≡ false = and_none (is_dir r.kind) (same_place (place_of r.path) place)
    (λ h. no_self place (subst (λ (q : Place). place_cmp q place ≡ Less) (same_place_is (place_of r.path) place h) before.0)) in
    ap (λ b. b || list_any (is_dir_at place) rows) here ∙ none_there rows place before.1

pub no_dir : (rows : List Row) (place : Place) → 0 < length place
    → AllByRecursion (λ (r : Row). place_cmp (place_of r.path) place ≡ Less) rows → has_dir rows place ≡ false
unfolding has_dir
no_dir rows [] below before = absurd (omega arith)
no_dir rows (n ∷ ns) below before = none_there rows (n ∷ ns) before

pub still_dir : (rows more : List Row) (place : Place) → has_dir rows place ≡ true → has_dir (rows ++ more) place ≡ true
unfolding has_dir
still_dir rows more place h = simp (list_any-append, or_left)

pub root_dir : (rows : List Row) → has_dir rows [] ≡ true
unfolding has_dir
root_dir rows = refl

-- ---- the parent of what comes next

parent_front : (place : Place) → place ≡ parent place ++ drop (length place - 1) place
parent_front place = sym (take-append-drop (length place - 1) place)

-- what comes after the last, and whose parent does not begin the last, has no parent
module _ (rows : List Row) (last : Place) (last_is : Bool) (fits : IsLast rows last last_is) (place : Place) (below : 0 < length place)
    (before : AllByRecursion (λ (r : Row). place_cmp (place_of r.path) place ≡ Less) rows) where
  behind : place_cmp last place ≡ Less
  behind = (fits.later place below).1 before

  begins_by : (o : Ordering) → place_cmp last (parent place) ≡ o → has_dir rows (parent place) ≡ true
      → begins (parent place) last ≡ true
  begins_by Less is there = grind (arith, cases_lt, false≢true, no_dir, nil_from_length)
  begins_by Equal is there =
      let same : last ≡ parent place = place_cmp-same last (parent place) is in
      subst (λ (q : Place). begins (parent place) q ≡ true) (append-nil (parent place) ∙ sym same)
      (begins-append (parent place) [])
  begins_by Greater is there = between (parent place) last (drop (length place - 1) place) is
      (ap (place_cmp last) (sym (parent_front place)) ∙ behind)

  pub begins_last : has_dir rows (parent place) ≡ true → begins (parent place) last ≡ true
  begins_last there = begins_by (place_cmp last (parent place)) refl there

  -- a place that begins the last is as many of its names
  front_of_last : (top : Place) → begins top last ≡ true → (top ≡ take (length top) last) × (length top ≤ length last)
  front_of_last top h =
      let whole : last ≡ top ++ drop (length top) last = begins-front top last h in
      let part : take (length top) (top ++ drop (length top) last) ≡ top = take-append-le (length top) top
      (drop (length top) last) (omega arith) ∙ take_all (length top) top (omega arith) in
      (sym (ap (take (length top)) whole ∙ part), omega (arith, ap length whole, length-append top (drop (length top) last)))

  pub not_begun : begins (parent place) last ≡ false → has_dir rows (parent place) ≡ false
  not_begun apart = grind (arith, cases_Bool, false≢true, begins_last)

  pub begun_above : begins (parent place) last ≡ true → length (parent place) < length last
      → has_dir rows (parent place) ≡ true
  begun_above h shorter = grind (arith, common_steps, front_of_last)

  pub begun_whole : begins (parent place) last ≡ true → length last ≤ length (parent place)
      → has_dir rows (parent place) ≡ last_is
  begun_whole h longer =
      let f = front_of_last (parent place) h in
      let same : parent place ≡ last = f.0 ∙ take_all (length (parent place)) last longer in
      ap (has_dir rows) same ∙ fits.itself

  -- each place above it is a directory
  pub above_place : has_dir rows (parent place) ≡ true → (depth : ℕ) → depth < length place
      → has_dir rows (take depth place) ≡ true
  above_place there depth less =
      let f = front_of_last (parent place) (begins_last there) in
      let len : length (parent place) ≡ length place - 1 = omega (arith, length-take (length place - 1) place) in
      elim (cases_lt depth (length (parent place))) [
        | inl shorter ↦
            let first : take depth place ≡ take depth (parent place) = ap (take depth) (parent_front place)
            ∙ take-append-le depth (parent place) (drop (length place - 1) place) (omega (arith, shorter)) in
            let second : take depth (parent place) ≡ take depth last =
            ap (take depth) f.0 ∙ take-take depth (length (parent place)) last (omega (arith, shorter)) in
            subst (λ (q : Place). has_dir rows q ≡ true) (sym (first ∙ second))
            (fits.above depth (omega (arith, shorter, f.1)))
        | inr longer ↦
            let whole : depth ≡ length place - 1 = omega (arith, longer, len, less) in
            subst (λ (d : ℕ). has_dir rows (take d place) ≡ true) (sym whole) there
      ]

-- ---- the last entry, one entry more

pub no_last : IsLast [] [] true
no_last = grind (arith, root_dir)

all_weaker : (P Q : Row → Type 0) (rows : List Row) → ((r : Row) → P r → Q r) → AllByRecursion P rows
    → AllByRecursion Q rows
all_weaker P Q [] f p = tt
all_weaker P Q (r ∷ rows) f p = (f r p.0, all_weaker P Q rows f p.1)

all_push : (P : Row → Type 0) (rows : List Row) (row : Row) → AllByRecursion P rows → P row
    → AllByRecursion P (rows ++ row ∷ [])
all_push P [] row p q = (q, tt)
all_push P (r ∷ rows) row p q = (p.0, all_push P rows row p.1 q)

all_last : (P : Row → Type 0) (rows : List Row) (row : Row) → AllByRecursion P (rows ++ row ∷ []) → P row
all_last P [] row p = p.0
all_last P (r ∷ rows) row p = all_last P rows row p.1

later_more : (rows : List Row) (row : Row)
    → AllByRecursion (λ (r : Row). place_cmp (place_of r.path) (place_of row.path) ≡ Less) rows → (place : Place)
    → (place_cmp (place_of row.path) place ≡ Less) ↔ AllByRecursion (λ (r : Row). place_cmp (place_of r.path) place ≡ Less) (rows ++ row ∷ [])
later_more rows row before place = grind (arith, all_push, all_weaker, place_cmp-total, all_last)

-- whether the new entry is a directory, since no other is at its place
dir_itself : (rows : List Row) (row : Row) → 0 < length (place_of row.path)
    → AllByRecursion (λ (r : Row). place_cmp (place_of r.path) (place_of row.path) ≡ Less) rows
    → has_dir (rows ++ row ∷ []) (place_of row.path) ≡ is_dir row.kind
unfolding has_dir
dir_itself rows row below before = by (place_of row.path) refl below
  where
    and_true : (b c : Bool) → c ≡ true → (b && c || false) ≡ b
    and_true true c h = ap (λ v. v || false) h
    and_true false c h = refl

    by : (place : Place) → place_of row.path ≡ place → 0 < length place
        → (is_root place || list_any (is_dir_at place) (rows ++ row ∷ [])) ≡ is_dir row.kind
    by [] is some = absurd (omega arith)
    by (n ∷ ns) is some =
        let none : list_any (is_dir_at (n ∷ ns)) rows ≡ false =
        none_there rows (n ∷ ns) (subst (λ (q : Place). AllByRecursion (λ (r : Row). place_cmp (place_of r.path) q ≡ Less) rows) is before) in
        list_any-append (is_dir_at (n ∷ ns)) rows (row ∷ [])
        ∙ ap (λ b. b || list_any (is_dir_at (n ∷ ns)) (row ∷ [])) none
        ∙ and_true (is_dir row.kind) (same_place (place_of row.path) (n ∷ ns)) (ap (same_place (place_of row.path)) (sym is) ∙ same_place_itself (place_of row.path))

pub last_more : (rows : List Row) (last : Place) (last_is : Bool) (row : Row) → IsLast rows last last_is
    → Follows rows row.path → IsLast (rows ++ row ∷ []) (place_of row.path) (is_dir row.kind)
last_more rows last last_is row fits next = record {
  later = λ place below. later_more rows row next.later place;
  above = λ depth less. still_dir rows (row ∷ []) (take depth (place_of row.path)) (above_place rows last last_is fits (place_of row.path) next.below_root next.later next.parent depth less);
  itself = dir_itself rows row next.below_root next.later;
}
