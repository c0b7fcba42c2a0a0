-- Laws of a directory that moves in a table of places.
use Rattle.sftp_path.proofs.Imports.{◌≡◌, ◌&&◌, ℕ, suc, nat_eq, nat_lt, true, [], ◌∷◌, ◌++◌, length, take, drop, refl}
use Rattle.sftp_path.proofs.Imports.{ap, sym, ◌∙◌, arith, IsTotalOrder, nat_list_cmp_total, nat_list_eq_equiv}
use Rattle.sftp_path.proofs.Imports.{IsAntisymmetric, nat_cmp-IsAntisymmetric, slice_cmp-IsAntisymmetric, and_parts}
use Rattle.sftp_path.proofs.Imports.{lt-ltb, and_assoc, append-nil, length-append, common_steps, ◌+◌, Bool, false}
use Rattle.sftp_path.proofs.Imports.{if◌then◌else◌, map, None, inl, inr, true≢false, is_eq, ordering_then, Equal-is}
use Rattle.sftp_path.proofs.Imports.{keys_of, cases_Bool, false_from_ne_true, false≢true, tied_itself, append_assoc}
use Rattle.sftp_path.proofs.Imports.{sorted_head, sorted_tail, Table, InOrder, get, from_entries, size, renamed}
use Rattle.sftp_path.proofs.Imports.{renamed_entry, rekeyed, NothingFrom, ◌≢◌, Some, Equal, map-append, put, without}
use Rattle.sftp_path.proofs.Imports.{count, list_all}
use Rattle.std.specs.Cmp.Lexicographic.{pointwise, bytes_decides, lists_total}
use Rattle.std.proofs.lemmas.Bool.Decides.{nat_tests}
use Rattle.std.proofs.Math.Seq.{take-append_seam}
use Rattle.sftp_path.specs.Place.{Name, Place, bytes_cmp, place_cmp, same_bytes, begins, is_below, parent}
use Rattle.sftp_path.proofs.Table.Entries.{get-none, get-none_front, get-none_behind, get-front, from_entries-last}
use Rattle.sftp_path.proofs.Table.Entries.{put-without, one_if, count-step, count-put_new, all-put_new}
use Rattle.sftp_path.proofs.Table.Laws.{get-empty, get-cons, get-below, get-from_entries, InOrder-from_entries}
use Rattle.sftp_path.proofs.Table.Laws.{size-put, same_table, get-put_here, get-put_elsewhere, get-without}
use Rattle.sftp_path.proofs.Table.Laws.{get-without_here, get-without_elsewhere, InOrder-put, InOrder-without}

-- ==== Places that begin others, and the orders of keys.

-- ---- places that begin others

-- the test by the names in front
pub begins-is : (top place : Place) → pointwise (pointwise nat_eq) top (take (length top) place) ≡ begins top place
begins-is [] place = refl
begins-is (m ∷ ms) [] = refl
begins-is (m ∷ ms) (n ∷ ns) = ap (λ b. same_bytes m n && b) (begins-is ms ns)

pub begins-front : (top place : Place) → begins top place ≡ true → place ≡ top ++ drop (length top) place
begins-front [] place h = refl
begins-front (m ∷ ms) [] h = cc
begins-front (m ∷ ms) (n ∷ ns) h =
    let p = and_parts (same_bytes m n) (begins ms ns) h in
    let same : m ≡ n = (bytes_decides m n).0 p.0 in
    λ i. sym same i ∷ begins-front ms ns p.1 i

pub begins-append : (top rest : Place) → begins top (top ++ rest) ≡ true
begins-append [] rest = refl
begins-append (m ∷ ms) rest = ap (λ b. b && begins ms (ms ++ rest)) (nat_list_eq_equiv.refl m) ∙ begins-append ms rest

pub begins-itself : (place : Place) → begins place place ≡ true
begins-itself place = ap (begins place) (sym (append-nil place)) ∙ begins-append place []

shorter-tails : (a b : ℕ) → nat_lt a b ≡ nat_lt (suc a) (suc b)
shorter-tails a b = grind (arith, nat_tests)

pub below-begins : (top place : Place) → is_below top place ≡ (begins top place && nat_lt (length top) (length place))
below-begins [] [] = refl
below-begins [] (n ∷ ns) = sym (lt-ltb 0 (length (n ∷ ns)) (omega arith))
below-begins (m ∷ ms) [] = refl
below-begins (m ∷ ms) (n ∷ ns) = grind (arith, and_assoc, shorter-tails, below-begins ms ns)

-- ---- the parent

pub parent-entered : (place : Place) (name : Name) → parent (place ++ name ∷ []) ≡ place
parent-entered place name = grind (arith, common_steps, length-append, take-append_seam)

-- ---- the orders of keys

pub place_cmp-total : IsTotalOrder place_cmp
place_cmp-total = lists_total nat_list_cmp_total

pub bytes_cmp-same : IsAntisymmetric bytes_cmp
bytes_cmp-same = slice_cmp-IsAntisymmetric nat_cmp-IsAntisymmetric

pub place_cmp-same : IsAntisymmetric place_cmp
place_cmp-same = slice_cmp-IsAntisymmetric bytes_cmp-same

pub ruleset front_laws = (begins-front, begins-append, below-begins)

pub ruleset front_tests = (begins-is)

-- ---- places

-- what two places have in front does not count
place_cmp-append : (front p q : Place) → place_cmp (front ++ p) (front ++ q) ≡ place_cmp p q
place_cmp-append [] p q = refl
place_cmp-append (m ∷ ms) p q =
    ap (λ o. ordering_then o (place_cmp (ms ++ p) (ms ++ q))) (tied_itself nat_list_cmp_total m)
    ∙ place_cmp-append ms p q

-- a place that begins one of two places alone tells them apart
apart : (top p q : Place) (b c : Bool) → begins top p ≡ b → begins top q ≡ c → (b ≡ c → ⊥)
    → is_eq (place_cmp p q) ≡ false
apart top p q b c at_p at_q differ = false_from_ne_true (is_eq (place_cmp p q))
    (λ tie. differ (sym at_p ∙ ap (begins top) (place_cmp-same p q ((Equal-is (place_cmp p q)).0 tie)) ∙ at_q))

-- of two places that begin one place, one begins the other
begins-either : (p q rest : Place) → begins p (q ++ rest) ≡ true → begins q p ≡ false → begins p q ≡ true
begins-either [] q rest g h = refl
begins-either (m ∷ ms) [] rest g h = cc
begins-either (m ∷ ms) (n ∷ ns) rest g h =
    let both = and_parts (same_bytes m n) (begins ms (ns ++ rest)) g in
    let turned : same_bytes n m ≡ true = nat_list_eq_equiv.symm n m ∙ both.0 in
    ap (λ b. b && begins ms ns) both.0 ∙ begins-either ms ns rest both.1 (ap (λ b. b && begins ns ms) (sym turned) ∙ h)

-- ---- a renamed place

pub renamed-inside : (old new place : Place) → begins old place ≡ true
    → renamed old new place ≡ new ++ drop (length old) place
renamed-inside old new place h = ap (λ b. if b then new ++ drop (length old) place else place) h

pub renamed-outside : (old new place : Place) → begins old place ≡ false → renamed old new place ≡ place
renamed-outside old new place h = ap (λ b. if b then new ++ drop (length old) place else place) h

renamed-begins : (old new place : Place) → begins old place ≡ true → begins new (renamed old new place) ≡ true
renamed-begins old new place h = grind (arith, renamed-inside, begins-append)

pub length-renamed : (old new place : Place) → begins old place ≡ true
    → length (renamed old new place) + length old ≡ length place + length new
length-renamed old new place h =
    let rest = drop (length old) place in
    let after : length (renamed old new place) ≡ length new + length rest =
    ap length (renamed-inside old new place h) ∙ length-append new rest in
    let before : length place ≡ length old + length rest =
    ap length (begins-front old place h) ∙ length-append old rest in
    omega (arith, after, before)

-- ---- the places that a renamed place is

same-moved : (old new rest place : Place) → is_eq (place_cmp (new ++ rest) place) ≡ false
    → is_eq (place_cmp (new ++ rest) (renamed old new place)) ≡ is_eq (place_cmp (old ++ rest) place)
same-moved old new rest place free = elim (cases_Bool (begins old place)) [
  | inl inside ↦
      let behind = drop (length old) place in
      ap (λ p. is_eq (place_cmp (new ++ rest) p)) (renamed-inside old new place inside)
      ∙ ap is_eq (place_cmp-append new rest behind ∙ sym (place_cmp-append old rest behind))
      ∙ ap (λ p. is_eq (place_cmp (old ++ rest) p)) (sym (begins-front old place inside))
  | inr outside ↦ ap (λ p. is_eq (place_cmp (new ++ rest) p)) (renamed-outside old new place outside) ∙ free
      ∙ sym (apart old (old ++ rest) place true false (begins-append old rest) outside true≢false)
]

same-elsewhere : (old new at place : Place) → begins old at ≡ false → begins new at ≡ false
    → is_eq (place_cmp at (renamed old new place)) ≡ is_eq (place_cmp at place)
same-elsewhere old new at place not_old not_new =
    grind (arith, cases_Bool, apart, renamed-begins, false≢true, renamed-outside)

never-behind : (old new at place : Place) → begins old at ≡ true → begins new at ≡ false
    → is_eq (place_cmp at (renamed old new place)) ≡ false
never-behind old new at place in_old not_new =
    grind (arith, cases_Bool, apart, renamed-begins, false≢true, renamed-outside, true≢false)

-- there is no entry at a place, nor at those that it begins
pub nothing-at : {X : Type 0} (table : Table Place X) (top place : Place) → NothingFrom table top
    → begins top place ≡ true → get place_cmp table place ≡ None
nothing-at table top place nothing inside =
    ap (get place_cmp table) (begins-front top place inside) ∙ nothing (drop (length top) place)

module _ {X : Type 0} (old new : Place) where
  -- ---- the entries with their places renamed

  -- what is found by a test of the first entry, and else of the others
  get-step : (e : Place × X) (es : Table Place X) (p q : Place)
      → is_eq (place_cmp p (renamed old new e.0)) ≡ is_eq (place_cmp q e.0)
      → get place_cmp (map (renamed_entry old new) es) p ≡ get place_cmp es q
      → get place_cmp (map (renamed_entry old new) (e ∷ es)) p ≡ get place_cmp (e ∷ es) q
  get-step e es p q alike others = grind (arith, get-cons)

  pub get-moved : (es : Table Place X) (rest : Place) → get place_cmp es (new ++ rest) ≡ None
      → get place_cmp (map (renamed_entry old new) es) (new ++ rest) ≡ get place_cmp es (old ++ rest)
  get-moved [] rest h = get-empty place_cmp (new ++ rest) ∙ sym (get-empty place_cmp (old ++ rest))
  get-moved (e ∷ es) rest h = grind (arith, get-none, get-step, same-moved, get-moved es rest)

  pub get-elsewhere : (es : Table Place X) (at : Place) → begins old at ≡ false → begins new at ≡ false
      → get place_cmp (map (renamed_entry old new) es) at ≡ get place_cmp es at
  get-elsewhere [] at not_old not_new = refl
  get-elsewhere (e ∷ es) at not_old not_new =
      get-step e es at at (same-elsewhere old new at e.0 not_old not_new) (get-elsewhere es at not_old not_new)

  get-behind : (es : Table Place X) (at : Place) → begins old at ≡ true → begins new at ≡ false
      → get place_cmp (map (renamed_entry old new) es) at ≡ None
  get-behind [] at in_old not_new = get-empty place_cmp at
  get-behind (e ∷ es) at in_old not_new = grind (arith, get-cons, never-behind, get-behind es at in_old not_new)

  -- ---- how many entries

  pub nothing-behind : (e : Place × X) (es : Table Place X) → NothingFrom (e ∷ es) new → NothingFrom es new
  nothing-behind e es nothing rest = (get-none place_cmp e es (new ++ rest) (nothing rest)).1

  -- the first entry is not at the new place, nor below it
  pub first-outside : (e : Place × X) (es : Table Place X) → NothingFrom (e ∷ es) new → begins new e.0 ≡ false
  first-outside e es nothing = false_from_ne_true (begins new e.0) (λ inside.
      let rest = drop (length new) e.0 in
      let is : new ++ rest ≡ e.0 = sym (begins-front new e.0 inside) in
      let tie : is_eq (place_cmp (new ++ rest) e.0) ≡ true =
      ap (λ p. is_eq (place_cmp p e.0)) is ∙ ap is_eq (tied_itself place_cmp-total e.0) in
      true≢false (sym tie ∙ (get-none place_cmp e es (new ++ rest) (nothing rest)).0))

  -- no other entry comes to the place of the first
  pub first-alone : (e : Place × X) (es : Table Place X) → InOrder place_cmp (e ∷ es) → NothingFrom (e ∷ es) new
      → get place_cmp (map (renamed_entry old new) es) (renamed old new e.0) ≡ None
  first-alone e es order nothing =
      let once : get place_cmp es e.0 ≡ None =
      get-below place_cmp e.0 es (sorted_head place_cmp e.0 (keys_of es) order) in
      elim (cases_Bool (begins old e.0)) [
        | inl inside ↦
            let rest = drop (length old) e.0 in
            ap (get place_cmp (map (renamed_entry old new) es)) (renamed-inside old new e.0 inside)
            ∙ get-moved es rest (nothing-behind e es nothing rest)
            ∙ ap (get place_cmp es) (sym (begins-front old e.0 inside)) ∙ once
        | inr outside ↦ ap (get place_cmp (map (renamed_entry old new) es)) (renamed-outside old new e.0 outside)
            ∙ get-elsewhere es e.0 outside (first-outside e es nothing) ∙ once
      ]

  size-made : (es : Table Place X) → InOrder place_cmp es → NothingFrom es new
      → size (from_entries place_cmp (map (renamed_entry old new) es)) ≡ size es
  unfolding from_entries
  size-made [] order nothing = refl
  size-made (e ∷ es) order nothing =
      let others : Table Place X = map (renamed_entry old new) es in
      let rest : size (from_entries place_cmp others) ≡ size es =
      size-made es (sorted_tail place_cmp e.0 (keys_of es) order) (nothing-behind e es nothing) in
      let more = size-put place_cmp (from_entries place_cmp others) (renamed old new e.0) e.1
      (get-from_entries place_cmp place_cmp-total others (renamed old new e.0) ∙ first-alone e es order nothing) in
      let longer : length es + 1 ≡ length (e ∷ es) = omega arith in
      more ∙ ap (λ n. n + 1) rest ∙ longer

  pub size-rekeyed : (table : Table Place X) → InOrder place_cmp table → NothingFrom table new
      → size (rekeyed old new table) ≡ size table
  unfolding rekeyed
  size-rekeyed = size-made

  -- ---- the value of a place

  pub get-rekeyed : (table : Table Place X) (at : Place)
      → get place_cmp (rekeyed old new table) at ≡ get place_cmp (map (renamed_entry old new) table) at
  unfolding rekeyed
  get-rekeyed table at = get-from_entries place_cmp place_cmp-total (map (renamed_entry old new) table) at

  pub get-rekeyed_moved : (table : Table Place X) (rest : Place) → get place_cmp table (new ++ rest) ≡ None
      → get place_cmp (rekeyed old new table) (new ++ rest) ≡ get place_cmp table (old ++ rest)
  get-rekeyed_moved table rest free = get-rekeyed table (new ++ rest) ∙ get-moved table rest free

  pub get-rekeyed_elsewhere : (table : Table Place X) (place : Place) → begins old place ≡ false
      → begins new place ≡ false → get place_cmp (rekeyed old new table) place ≡ get place_cmp table place
  get-rekeyed_elsewhere table place not_old not_new = grind (arith, get-rekeyed, get-elsewhere)

  pub get-rekeyed_behind : (table : Table Place X) (place : Place) → begins old place ≡ true
      → begins new place ≡ false → get place_cmp (rekeyed old new table) place ≡ None
  get-rekeyed_behind table place in_old not_new = get-rekeyed table place ∙ get-behind table place in_old not_new

  pub get-rekeyed_left : (table : Table Place X) (rest : Place) → begins old new ≡ false → NothingFrom table new
      → get place_cmp (rekeyed old new table) (old ++ rest) ≡ None
  get-rekeyed_left table rest not_inside nothing = elim (cases_Bool (begins new (old ++ rest))) [
    | inl both ↦
        let behind = drop (length new) (old ++ rest) in
        let between = drop (length new) old in
        let above : old ≡ new ++ between = begins-front new old (begins-either new old rest both not_inside) in
        ap (get place_cmp (rekeyed old new table)) (begins-front new (old ++ rest) both)
        ∙ get-rekeyed_moved table behind (nothing behind)
        ∙ ap (get place_cmp table) (ap (λ p. p ++ behind) above ∙ append_assoc new between behind)
        ∙ nothing (between ++ behind)
    | inr only_old ↦ get-rekeyed_behind table (old ++ rest) (begins-append old rest) only_old
  ]

  pub InOrder-rekeyed : (table : Table Place X) → InOrder place_cmp (rekeyed old new table)
  unfolding rekeyed
  InOrder-rekeyed table = InOrder-from_entries place_cmp place_cmp-total (map (renamed_entry old new) table)

  -- ---- no other table

  pub rekeyed-unique : (table other : Table Place X) → InOrder place_cmp other → NothingFrom table new
      → ((rest : Place) → get place_cmp other (new ++ rest) ≡ get place_cmp table (old ++ rest))
      → ((place : Place) → begins old place ≡ true → begins new place ≡ false → get place_cmp other place ≡ None)
      → ((place : Place) → begins old place ≡ false → begins new place ≡ false → get place_cmp other place ≡ get place_cmp table place)
      → other ≡ rekeyed old new table
  rekeyed-unique table other order nothing moved behind elsewhere =
      same_table place_cmp place_cmp-total place_cmp-same other (rekeyed old new table) order (InOrder-rekeyed table)
      alike
    where
      alike : (place : Place) → get place_cmp other place ≡ get place_cmp (rekeyed old new table) place
      alike place = elim (cases_Bool (begins new place)) [
        | inl in_new ↦
            let rest = drop (length new) place in
            let is : place ≡ new ++ rest = begins-front new place in_new in
            ap (get place_cmp other) is ∙ moved rest ∙ sym (get-rekeyed_moved table rest (nothing rest))
            ∙ ap (get place_cmp (rekeyed old new table)) (sym is)
        | inr not_new ↦
            elim (cases_Bool (begins old place)) [
              | inl in_old ↦ behind place in_old not_new ∙ sym (get-rekeyed_behind table place in_old not_new)
              | inr not_old ↦ elsewhere place not_old not_new ∙ sym (get-rekeyed_elsewhere table place not_old not_new)
            ]
      ]

pub ruleset move_laws = (get-rekeyed_moved, get-rekeyed_left, get-rekeyed_behind, get-rekeyed_elsewhere, InOrder-rekeyed, size-rekeyed, length-renamed, rekeyed-unique, nothing-at)

-- ==== More laws of a directory that moves in a table of places: what is counted, an entry with none below it, and the
-- move entry by entry.

-- places that differ do not tie
differ : (p q : Place) → (p ≡ q → ⊥) → place_cmp p q ≢ Equal
differ p q apart tie = apart (place_cmp-same p q tie)

-- what one place begins and another does not
begins-apart : (top p q : Place) → begins top p ≡ true → begins top q ≡ false → p ≡ q → ⊥
begins-apart top p q inside outside is = true≢false (sym inside ∙ ap (begins top) is ∙ outside)

longer-apart : (place : Place) (name : Name) (names : Place) → place ++ name ∷ names ≡ place → ⊥
longer-apart place name names is =
    let long : length (place ++ name ∷ names) ≡ length place + length (name ∷ names) =
    length-append place (name ∷ names) in
    let short : length (place ++ name ∷ names) ≡ length place = ap length is in
    absurd (omega arith)

-- there is no entry from a place on, neither in front nor behind
pub NothingFrom-front : {X : Type 0} (place : Place) (es fs : Table Place X) → NothingFrom (es ++ fs) place
    → NothingFrom es place
NothingFrom-front place es fs nothing rest = get-none_front place_cmp es fs (place ++ rest) (nothing rest)

pub NothingFrom-behind : {X : Type 0} (place : Place) (es fs : Table Place X) → NothingFrom (es ++ fs) place
    → NothingFrom fs place
NothingFrom-behind place es fs nothing rest = get-none_behind place_cmp es fs (place ++ rest) (nothing rest)

module _ {X : Type 0} (old new : Place) where
  -- ---- how many values pass

  count-made : (es : Table Place X) (passes : X → Bool) → InOrder place_cmp es → NothingFrom es new
      → count (from_entries place_cmp (map (renamed_entry old new) es)) passes ≡ count es passes
  unfolding from_entries
  count-made [] passes order nothing = refl
  count-made (e ∷ es) passes order nothing =
      let others : Table Place X = map (renamed_entry old new) es in
      let rest : count (from_entries place_cmp others) passes ≡ count es passes =
      count-made es passes (sorted_tail place_cmp e.0 (keys_of es) order) (nothing-behind old new e es nothing) in
      let absent : get place_cmp (from_entries place_cmp others) (renamed old new e.0) ≡ None =
      get-from_entries place_cmp place_cmp-total others (renamed old new e.0)
      ∙ first-alone old new e es order nothing in
      let more = count-put_new place_cmp (from_entries place_cmp others) (renamed old new e.0) e.1 passes absent in
      let first : count (e ∷ es) passes ≡ one_if (passes e.1) + count es passes = count-step e es passes in
      let swapped : count es passes + one_if (passes e.1) ≡ count (e ∷ es) passes = omega (arith, first) in
      more ∙ ap (λ n. n + one_if (passes e.1)) rest ∙ swapped

  pub count-rekeyed : (table : Table Place X) (passes : X → Bool) → InOrder place_cmp table → NothingFrom table new
      → count (rekeyed old new table) passes ≡ count table passes
  unfolding rekeyed
  count-rekeyed = count-made

  -- ---- the move entry by entry

  pub rekeyed-empty : rekeyed {X = X} old new [] ≡ []
  unfolding rekeyed from_entries
  rekeyed-empty = refl

  -- no entry in front comes to the place of one after
  last-alone : (before : Table Place X) (e : Place × X) (rest : Table Place X)
      → InOrder place_cmp (before ++ e ∷ rest) → NothingFrom (before ++ e ∷ rest) new
      → get place_cmp (map (renamed_entry old new) before) (renamed old new e.0) ≡ None
  last-alone before e rest order nothing =
      let once : get place_cmp before e.0 ≡ None =
      get-front place_cmp place_cmp-total place_cmp-same before e rest order in
      elim (cases_Bool (begins old e.0)) [
        | inl inside ↦
            let names = drop (length old) e.0 in
            ap (get place_cmp (map (renamed_entry old new) before)) (renamed-inside old new e.0 inside)
            ∙ get-moved old new before names (NothingFrom-front new before (e ∷ rest) nothing names)
            ∙ ap (get place_cmp before) (sym (begins-front old e.0 inside)) ∙ once
        | inr outside ↦ ap (get place_cmp (map (renamed_entry old new) before)) (renamed-outside old new e.0 outside)
            ∙ get-elsewhere old new before e.0 outside (first-outside old new e rest (NothingFrom-behind new before (e ∷ rest) nothing))
            ∙ once
      ]

  pub rekeyed-free : (before rest : Table Place X) (e : Place × X) → InOrder place_cmp (before ++ e ∷ rest)
      → NothingFrom (before ++ e ∷ rest) new → get place_cmp (rekeyed old new before) (renamed old new e.0) ≡ None
  rekeyed-free before rest e order nothing = grind (arith, get-rekeyed, last-alone)

  pub rekeyed-last : (before rest : Table Place X) (e : Place × X) → InOrder place_cmp (before ++ e ∷ rest)
      → NothingFrom (before ++ e ∷ rest) new
      → rekeyed old new (before ++ e ∷ []) ≡ put place_cmp (rekeyed old new before) (renamed old new e.0) e.1
  unfolding rekeyed
  rekeyed-last before rest e order nothing =
      grind (arith, map-append, from_entries-last, place_cmp-total, place_cmp-same, last-alone)

  -- the same of a table that is these entries
  pub rekeyed-free_of : (table before rest : Table Place X) (e : Place × X) → InOrder place_cmp table
      → NothingFrom table new → before ++ e ∷ rest ≡ table
      → get place_cmp (rekeyed old new before) (renamed old new e.0) ≡ None
  rekeyed-free_of table before rest e order nothing is = grind (arith, rekeyed-free)

  pub rekeyed-last_of : (table before rest : Table Place X) (e : Place × X) → InOrder place_cmp table
      → NothingFrom table new → before ++ e ∷ rest ≡ table
      → rekeyed old new (before ++ e ∷ []) ≡ put place_cmp (rekeyed old new before) (renamed old new e.0) e.1
  rekeyed-last_of table before rest e order nothing is = grind (arith, rekeyed-last)

  -- ---- an entry with nothing below it

  away-none : (table : Table Place X) (place : Place) → InOrder place_cmp table → get place_cmp table place ≡ None
      → get place_cmp (without place_cmp table old) place ≡ None
  away-none table place order none = grind (arith, get-without, place_cmp-total)

  module _ (table : Table Place X) (value : X) where
    abbrev moved_alone : Table Place X
    moved_alone = put place_cmp (without place_cmp table old) new value

    -- elsewhere than at the new place
    other : (place : Place) → (place ≡ new → ⊥)
        → get place_cmp moved_alone place ≡ get place_cmp (without place_cmp table old) place
    other place apart = simp (get-put_elsewhere, place_cmp-total, differ)

    pub rekeyed-alone : InOrder place_cmp table → get place_cmp table old ≡ Some value
        → ((name : Name) (names : Place) → get place_cmp table (old ++ name ∷ names) ≡ None) → NothingFrom table new
        → rekeyed old new table ≡ put place_cmp (without place_cmp table old) new value
    rekeyed-alone order stands alone nothing =
        sym (rekeyed-unique old new table moved_alone (InOrder-put place_cmp place_cmp-total (without place_cmp table old) new value (InOrder-without place_cmp table old order)) nothing at_new at_old beside)
      where
        at_new : (rest : Place) → get place_cmp moved_alone (new ++ rest) ≡ get place_cmp table (old ++ rest)
        at_new [] = grind (arith, append-nil, get-put_here, place_cmp-total)
        at_new (name ∷ names) = grind (arith, other, longer-apart, away-none)

        below : (rest : Place) → get place_cmp (without place_cmp table old) (old ++ rest) ≡ None
        below [] = grind (arith, append-nil, get-without_here, place_cmp-total)
        below (name ∷ names) = away-none table (old ++ name ∷ names) order (alone name names)

        not_new : (place : Place) → begins new place ≡ false → place ≡ new → ⊥
        not_new place outside is = begins-apart new new place (begins-itself new) outside (sym is)

        at_old : (place : Place) → begins old place ≡ true → begins new place ≡ false
            → get place_cmp moved_alone place ≡ None
        at_old place inside outside = other place (not_new place outside)
            ∙ ap (get place_cmp (without place_cmp table old)) (begins-front old place inside)
            ∙ below (drop (length old) place)

        beside : (place : Place) → begins old place ≡ false → begins new place ≡ false
            → get place_cmp moved_alone place ≡ get place_cmp table place
        beside place not_old outside = other place (not_new place outside)
            ∙ get-without_elsewhere place_cmp place_cmp-total table old place order (differ old place (begins-apart old old place (begins-itself old) not_old))

    pub rekeyed-alone_put_first : InOrder place_cmp table → get place_cmp table old ≡ Some value
        → ((name : Name) (names : Place) → get place_cmp table (old ++ name ∷ names) ≡ None) → NothingFrom table new
        → rekeyed old new table ≡ without place_cmp (put place_cmp table new value) old
    rekeyed-alone_put_first order stands alone nothing = rekeyed-alone order stands alone nothing
        ∙ put-without place_cmp place_cmp-total place_cmp-same table old new value order (differ old new apart)
      where
        apart : old ≡ new → ⊥
        apart is =
            let none : get place_cmp table old ≡ None =
            ap (get place_cmp table) (is ∙ sym (append-nil new)) ∙ nothing [] in
            cc

pub ruleset entry_laws = (count-rekeyed, rekeyed-alone, rekeyed-alone_put_first, rekeyed-empty, rekeyed-last, rekeyed-free, rekeyed-last_of, rekeyed-free_of)

-- ==== Tests of all entries of a table in which a directory moves.

module _ {X : Type 0} (old new : Place) where
  all-made : (keeps : Place × X → Bool) (es : Table Place X) → InOrder place_cmp es → NothingFrom es new
      → list_all keeps (from_entries place_cmp (map (renamed_entry old new) es))
      ≡ list_all (λ e. keeps (renamed_entry old new e)) es
  unfolding from_entries
  all-made keeps [] order nothing = refl
  all-made keeps (e ∷ es) order nothing =
      let others : Table Place X = map (renamed_entry old new) es in
      all-put_new place_cmp (from_entries place_cmp others) (renamed old new e.0) e.1 keeps
      (get-from_entries place_cmp place_cmp-total others (renamed old new e.0) ∙ first-alone old new e es order nothing)
      ∙ ap (λ b. keeps (renamed_entry old new e) && b) (all-made keeps es (sorted_tail place_cmp e.0 (keys_of es) order) (nothing-behind old new e es nothing))

  pub all-rekeyed : (table : Table Place X) (keeps : Place × X → Bool) → InOrder place_cmp table → NothingFrom table new
      → list_all keeps (rekeyed old new table) ≡ list_all (λ e. keeps (renamed_entry old new e)) table
  unfolding rekeyed
  all-rekeyed table keeps = all-made keeps table

pub ruleset moved_tests = (all-rekeyed)
