-- The parts and components of a path.
use Rattle.sftp_path.proofs.Imports.{◌≡◌, ◌≢◌, ℕ, suc, zero, ◌+◌, ◌-◌, ◌<◌, ◌≤◌, Bool, true, false, cond, not, ◌==◌}
use Rattle.sftp_path.proofs.Imports.{nat_lt, nat_le, List, [], ◌∷◌, ◌++◌, length, take, drop, refl, sym, ap, ◌∙◌}
use Rattle.sftp_path.proofs.Imports.{subst, arith, filter, list_all, position, position_or_len, Option, Some, None}
use Rattle.sftp_path.proofs.Imports.{is_some, inl, inr, eq-eqb, ne_eqb, lt-ltb, cond-true, and_parts, cases_Bool}
use Rattle.sftp_path.proofs.Imports.{false≢true, drop_all, length-drop, take_rest, with_slashes, begins_at_slash}
use Rattle.sftp_path.proofs.Imports.{parts_after, ◌&&◌, if◌then◌else◌, get_or, Fits, w8, zero-add, and-true, and_from}
use Rattle.sftp_path.proofs.Imports.{at_drop_more, at_drop_all, common_steps, flat_map, append-nil, IsTextOf}
use Rattle.std.specs.Prelude.{slice_index, unwrap_or}
use Rattle.bstr.specs.Find.{IsFirstByte, is_byte}
use Rattle.std.proofs.lemmas.Bool.{eqb-true, ltb-true, ltb-false, not-true, leb-true, le-leb, lt-leb, cond_both}
use Rattle.std.proofs.lemmas.Bool.{leb-false, and_left, and_right, not_from_false}
use Rattle.std.proofs.lemmas.Option.{cond_some, none-some}
use Rattle.sftp_path.specs.Place.{is_inner, name_limit, with_first, parts, components, is_nonempty, is_step, is_dot}
use Rattle.sftp_path.specs.Place.{is_dot_dot, is_name_byte, is_name, path_limit, is_good_path, are_names, absolute}
use Rattle.sftp_path.specs.Place.{is_absolute, Name, Place}
use Rattle.std.proofs.lemmas.List.Folds.{list_all-append}
use Rattle.std.specs.Option.{IfSome, IfNone}

-- ---- parts

-- a byte that is not 0
abbrev pub is_nonzero : ℕ → Bool
is_nonzero b = not (b == 0)

abbrev pub is_short : List ℕ → Bool
is_short part = nat_le (length part) name_limit

pub parts-nil : parts [] ≡ [] ∷ []
unfolding parts
parts-nil = refl

pub parts-slash : (b : ℕ) (bs : List ℕ) → (b == 47) ≡ true → parts (b ∷ bs) ≡ [] ∷ parts bs
unfolding parts
parts-slash b bs h = ap (λ v. cond v ([] ∷ parts bs) (with_first b (parts bs))) h

pub parts-inner : (b : ℕ) (bs : List ℕ) → (b == 47) ≡ false → parts (b ∷ bs) ≡ with_first b (parts bs)
unfolding parts
parts-inner b bs h = ap (λ v. cond v ([] ∷ parts bs) (with_first b (parts bs))) h

-- the parts of a path that starts with `/`
pub parts-from_slash : (bs : List ℕ) → parts (47 ∷ bs) ≡ [] ∷ parts bs
parts-from_slash bs = parts-slash 47 bs refl

-- the first part ends before the first `/`
pub parts-cut : (bs : List ℕ) (n : ℕ) → ((k : ℕ) → k < n → slice_index bs k ≢ 47)
    → (n < length bs → slice_index bs n ≡ 47) → parts bs ≡ take n bs ∷ parts_after (drop n bs)
parts-cut [] zero before at = parts-nil
parts-cut [] (suc n) before at = parts-nil
parts-cut (b ∷ bs) zero before at = parts-slash b bs (eq-eqb b 47 (at (omega arith)))
parts-cut (b ∷ bs) (suc n) before at = parts-inner b bs (ne_eqb b 47 (before 0 (omega arith)))
    ∙ ap (with_first b) (parts-cut bs n (λ k h. before (suc k) (omega arith)) (λ h. at (omega arith)))

-- the parts after the first byte
pub parts_after-first : (bs : List ℕ) → 1 ≤ length bs → parts (take (length bs - 1) (drop 1 bs)) ≡ parts_after bs
parts_after-first [] h = absurd (omega arith)
parts_after-first (b ∷ bs) h = ap parts (take_rest (b ∷ bs) 1)

-- what has no `/` is the first part of whatever a `/` follows
pub parts-append : (w r : List ℕ) → list_all is_inner w ≡ true → parts (w ++ 47 ∷ r) ≡ w ∷ parts r
parts-append [] r h = parts-from_slash r
parts-append (b ∷ w) r h = grind (arith, and_parts, parts-inner, not-true, parts-append w r)

-- what has no `/` is one part
pub parts-whole : (w : List ℕ) → list_all is_inner w ≡ true → parts w ≡ w ∷ []
parts-whole [] h = parts-nil
parts-whole (b ∷ w) h = grind (arith, and_parts, parts-inner, not-true, parts-whole w)

-- a path has a part, if only an empty one
pub parts-first : (bs : List ℕ) → (w : List ℕ) × (ws : List (List ℕ)) × (parts bs ≡ w ∷ ws)
parts-first [] = ([], [], parts-nil)
parts-first (b ∷ bs) = elim (cases_Bool (b == 47)) [
  | inl slash ↦ ([], parts bs, parts-slash b bs slash)
  | inr inner ↦
      let rest = parts-first bs in
      (b ∷ rest.0, rest.1, parts-inner b bs inner ∙ ap (with_first b) rest.2)
]

-- ---- components

pub components-are : (bs : List ℕ) → components bs ≡ filter is_nonempty (parts bs)
unfolding components
components-are bs = refl

pub components-nil : components [] ≡ []
components-nil = components-are [] ∙ ap (filter is_nonempty) parts-nil

-- a `/` in front changes nothing
pub components-slash : (bs : List ℕ) → components (47 ∷ bs) ≡ components bs
components-slash bs = components-are (47 ∷ bs) ∙ ap (filter is_nonempty) (parts-from_slash bs) ∙ sym (components-are bs)

-- what follows a part gives the components that are left
pub components-behind : (bs : List ℕ) → begins_at_slash bs ≡ true → components bs ≡ filter is_nonempty (parts_after bs)
components-behind [] h = components-nil
components-behind (b ∷ bs) h = components-are (b ∷ bs) ∙ ap (filter is_nonempty) (parts-slash b bs h)

pub filter-nonempty : (w : List ℕ) (ws : List (List ℕ)) → 0 < length w
    → filter is_nonempty (w ∷ ws) ≡ w ∷ filter is_nonempty ws
filter-nonempty [] ws h = absurd (omega arith)
filter-nonempty (b ∷ w) ws h = grind (arith, cond-true, lt-ltb)

-- the first slash-less part of what a `/` or nothing follows, where that part is not empty
pub components-cut : (bs w r : List ℕ) → parts bs ≡ w ∷ parts_after r → begins_at_slash r ≡ true → 0 < length w
    → components bs ≡ w ∷ components r
components-cut bs w r cut behind some = grind (arith, components-are, filter-nonempty, components-behind)

skip-slash : (b : ℕ) (bs : List ℕ) → (b == 47) ≡ true
    → drop (position_or_len is_inner (b ∷ bs)) (b ∷ bs) ≡ drop (position_or_len is_inner bs) bs
skip-slash b bs slash = grind arith

skip-stop : (b : ℕ) (bs : List ℕ) → (b == 47) ≡ false → drop (position_or_len is_inner (b ∷ bs)) (b ∷ bs) ≡ b ∷ bs
skip-stop b bs inner = ap (λ v. drop (cond (not (not v)) (1 + position_or_len is_inner bs) 0) (b ∷ bs)) inner

-- the slashes in front change nothing
pub components-skip : (bs : List ℕ) → components (drop (position_or_len is_inner bs) bs) ≡ components bs
components-skip [] = refl
components-skip (b ∷ bs) =
    grind (arith, cases_Bool, skip-slash, components-slash, eqb-true, skip-stop, components-skip bs)

-- nothing follows them, or a byte that is not `/`
skip-inner : (bs : List ℕ) → begins_at_slash (drop (position_or_len is_inner bs) bs) ≡ true
    → drop (position_or_len is_inner bs) bs ≡ []
skip-inner [] h = refl
skip-inner (b ∷ bs) h = grind (arith, cases_Bool, skip-slash, false≢true, skip-stop, skip-inner bs)

position-some : (bs : List ℕ) (n : ℕ) → position is_inner bs ≡ Some n
    → (position_or_len is_inner bs < length bs) × (position_or_len is_inner bs ≡ n)
position-some bs n h = grind (arith, cond_some, ltb-true)

-- from the first byte on that is no `/`, the first part is the first component
pub components-next : (bs w r : List ℕ) (n : ℕ) → position is_inner bs ≡ Some n
    → take (length bs - n) (drop n bs) ≡ w ++ r → parts (take (length bs - n) (drop n bs)) ≡ w ∷ parts_after r
    → begins_at_slash r ≡ true → components bs ≡ w ∷ components r
components-next bs w r n found whole cut behind =
    let p = position-some bs n found in
    let skipped : components (drop n bs) ≡ components bs =
    ap (λ k. components (drop k bs)) (sym p.1) ∙ components-skip bs in
    sym skipped
    ∙ components-cut (drop n bs) w r (ap parts (sym (take_rest bs n)) ∙ cut) behind (nonempty w (sym (take_rest bs n) ∙ whole))
  where
    nonempty : (v : List ℕ) → drop n bs ≡ v ++ r → 0 < length v
    nonempty [] e =
        let p = position-some bs n found in
        let none : drop n bs ≡ [] = subst (λ k. begins_at_slash (drop k bs) ≡ true → drop k bs ≡ []) p.1 (skip-inner bs)
        (ap begins_at_slash e ∙ behind) in
        let l : length (drop n bs) ≡ 0 = ap length none in
        absurd (omega (arith, length-drop n bs, p.0, p.1))
    nonempty (b ∷ v) e = omega arith

-- where each byte is a `/`, there is no component
pub components-end : (bs : List ℕ) → position is_inner bs ≡ None → components bs ≡ []
components-end bs none =
    let past : length bs ≤ position_or_len is_inner bs =
    elim (cases_Bool (nat_lt (position_or_len is_inner bs) (length bs))) [
      | inl yes-there ↦ absurd (none-some (position_or_len is_inner bs) (sym none ∙ cond-true (nat_lt (position_or_len is_inner bs) (length bs)) (Some (position_or_len is_inner bs)) None yes-there))
      | inr past ↦ ltb-false (position_or_len is_inner bs) (length bs) past
    ] in
    sym (components-skip bs) ∙ ap components (drop_all (position_or_len is_inner bs) bs past) ∙ components-nil

-- where a byte is no `/`, there is a component
components-there : (bs : List ℕ) → position_or_len is_inner bs < length bs → 0 < length (components bs)
components-there [] there = absurd (omega arith)
components-there (b ∷ bs) there = elim (cases_Bool (b == 47)) [
  | inl slash ↦
      let skipped : components (b ∷ bs) ≡ components bs =
      ap (λ v. components (v ∷ bs)) (eqb-true b 47 slash) ∙ components-slash bs in
      let passed : position_or_len is_inner (b ∷ bs) ≡ 1 + position_or_len is_inner bs =
      ap (λ v. cond (not (not v)) (1 + position_or_len is_inner bs) 0) slash in
      let further : position_or_len is_inner bs < length bs = omega arith in
      rw skipped (components-there bs further)
  | inr inner ↦
      let rest = parts-first bs in
      let first : components (b ∷ bs) ≡ (b ∷ rest.0) ∷ filter is_nonempty rest.1 =
      components-are (b ∷ bs) ∙ ap (filter is_nonempty) (parts-inner b bs inner ∙ ap (with_first b) rest.2)
      ∙ filter-nonempty (b ∷ rest.0) rest.1 (omega arith) in
      omega (arith, ap length first)
]

-- whether there is a component, by the first byte that is no `/`
pub components-none_left : (bs : List ℕ) (found : Option ℕ) (none : Bool) → found ≡ position is_inner bs
    → is_some found ≡ not none → none ≡ (length (components bs) == 0)
components-none_left bs None true e h = sym (eq-eqb (length (components bs)) 0 (ap length (components-end bs (sym e))))
components-none_left bs None false e h = cc
components-none_left bs (Some n) true e h = cc
components-none_left bs (Some n) false e h = grind (arith, components-there, position-some, ne_eqb)

-- the first place of a `/`, or the end, cuts the first part off
pub parts-found : (bs : List ℕ) (r : Option ℕ) → IsFirstByte (is_byte 47) bs r
    → parts bs ≡ take (unwrap_or r (length bs)) bs ∷ parts_after (drop (unwrap_or r (length bs)) bs)
parts-found bs None h = grind (arith, parts-cut, eq-eqb)
parts-found bs (Some n) h = grind (arith, parts-cut, eq-eqb, eqb-true)

-- ---- the parts make the path

with_slashes-with_first : (b : ℕ) (w : List ℕ) (ws : List (List ℕ))
    → with_slashes (with_first b (w ∷ ws)) ≡ b ∷ with_slashes (w ∷ ws)
with_slashes-with_first b w [] = refl
with_slashes-with_first b w (v ∷ vs) = refl

pub with_slashes-parts : (bs : List ℕ) → with_slashes (parts bs) ≡ bs
with_slashes-parts [] = ap with_slashes parts-nil
with_slashes-parts (b ∷ bs) =
    let first = parts-first bs in
    let rest : with_slashes (first.0 ∷ first.1) ≡ bs = ap with_slashes (sym first.2) ∙ with_slashes-parts bs in
    elim (cases_Bool (b == 47)) [
      | inl slash ↦ ap with_slashes (parts-slash b bs slash) ∙ ap (λ ws. with_slashes ([] ∷ ws)) first.2
          ∙ ap (λ cs. 47 ∷ cs) rest ∙ ap (λ v. v ∷ bs) (sym (eqb-true b 47 slash))
      | inr inner ↦ ap with_slashes (parts-inner b bs inner ∙ ap (with_first b) first.2)
          ∙ with_slashes-with_first b first.0 first.1 ∙ ap (λ cs. b ∷ cs) rest
    ]

-- lists without a `/`, at least one, are the parts of what they make
pub parts-with_slashes : (w : List ℕ) (ws : List (List ℕ)) → list_all (list_all is_inner) (w ∷ ws) ≡ true
    → parts (with_slashes (w ∷ ws)) ≡ w ∷ ws
parts-with_slashes w [] h = parts-whole w (and_parts (list_all is_inner w) true h).0
parts-with_slashes w (v ∷ vs) h = grind (arith, and_parts, parts-append, parts-with_slashes v vs)

pub ruleset part_laws = (with_slashes-parts, parts-with_slashes)

pub ruleset part_steps = (parts-found)

pub ruleset component_steps = (components-next, components-end)

-- ==== Good paths, and what holds of each of their components.

-- ---- tests of each element

and_shuffle : (a x y z : Bool) → (x && y) ≡ z → ((a && x) && y) ≡ (a && z)
and_shuffle true x y z h = h
and_shuffle false x y z h = refl

list_all-filter : {X : Type 0} (q t : X → Bool) (xs : List X) → list_all q xs ≡ true → list_all q (filter t xs) ≡ true
list_all-filter q t [] h = refl
list_all-filter q t (x ∷ xs) h = grind (arith, and_parts, cond_both, and_from, list_all-filter q t xs)

list_all-passes : {X : Type 0} (t : X → Bool) (xs : List X) → list_all t (filter t xs) ≡ true
list_all-passes t [] = refl
list_all-passes t (x ∷ xs) = grind (arith, cond_both, and_from, list_all-passes t xs)

pub filter_all : {X : Type 0} (t : X → Bool) (xs : List X) → list_all t xs ≡ true → filter t xs ≡ xs
filter_all t [] h = refl
filter_all t (x ∷ xs) h = grind (arith, and_parts, cond-true, filter_all t xs)

list_all-both : {X : Type 0} (p q : X → Bool) (xs : List X) → list_all p xs ≡ true → list_all q xs ≡ true
    → list_all (λ x. p x && q x) xs ≡ true
list_all-both p q [] g h = refl
list_all-both p q (x ∷ xs) g h = grind (arith, and_parts, and_from, list_all-both p q xs)

pub list_all-weaker : {X : Type 0} (p q : X → Bool) → ((x : X) → p x ≡ true → q x ≡ true) → (xs : List X)
    → list_all p xs ≡ true → list_all q xs ≡ true
list_all-weaker p q w [] h = refl
list_all-weaker p q w (x ∷ xs) h = grind (arith, and_parts, and_from, list_all-weaker p q w xs)

-- what holds of each element holds of the one between
pub list_all-between : {X : Type 0} (p : X → Bool) (before : List X) (x : X) (after : List X)
    → list_all p (before ++ x ∷ after) ≡ true → p x ≡ true
list_all-between p before x after h = grind (arith, and_parts, list_all-append)

-- ---- good paths

-- whether no byte is 0 and no component is longer than 255, where this many bytes of the first one came before
abbrev pub good_from : ℕ → List ℕ → Bool
good_from run [] = true
good_from run (b ∷ bs) =
    not (b == 0) && (if b == 47 then good_from 0 bs else nat_le (run + 1) name_limit && good_from (run + 1) bs)

-- each part is short, where this many bytes of the first one came before
short_after : ℕ → List (List ℕ) → Bool
short_after run [] = nat_le run name_limit
short_after run (part ∷ rest) = nat_le (run + length part) name_limit && list_all is_short rest

short_after-zero : (ps : List (List ℕ)) → list_all is_short ps ≡ short_after 0 ps
unfolding short_after
short_after-zero [] = refl
short_after-zero (p ∷ ps) = ap (λ n. nat_le n name_limit && list_all is_short ps) (sym (zero-add (length p)))

short_after-with_first : (run b : ℕ) (ps : List (List ℕ)) → short_after run (with_first b ps) ≡ short_after (run + 1) ps
unfolding short_after
short_after-with_first run b [] = and-true (nat_le (run + 1) name_limit)
short_after-with_first run b (p ∷ ps) = grind arith

short_after-long : (run : ℕ) (ps : List (List ℕ)) → 255 < run → short_after run ps ≡ false
unfolding short_after
short_after-long run [] h = lt-leb run 255 h
short_after-long run (p ∷ ps) h = grind (arith, and_left, lt-leb)

short_after-slash : (run : ℕ) (ps : List (List ℕ)) → run ≤ 255 → short_after run ([] ∷ ps) ≡ list_all is_short ps
unfolding short_after
short_after-slash run ps h = ap (λ v. v && list_all is_short ps) (le-leb (run + 0) 255 (omega arith))

good_from-short : (run : ℕ) (bs : List ℕ) → run ≤ 255
    → (list_all is_nonzero bs && short_after run (parts bs)) ≡ good_from run bs
good_from-short run [] h = ap (short_after run) parts-nil ∙ short_after-slash run [] h
good_from-short run (b ∷ bs) h = elim (cases_Bool (b == 47)) [
  | inl slash ↦
      let e : short_after run (parts (b ∷ bs)) ≡ short_after 0 (parts bs) =
      ap (short_after run) (parts-slash b bs slash) ∙ short_after-slash run (parts bs) h
      ∙ short_after-zero (parts bs) in
      ap (λ v. list_all is_nonzero (b ∷ bs) && v) e
      ∙ and_shuffle (is_nonzero b) (list_all is_nonzero bs) (short_after 0 (parts bs)) (good_from 0 bs) (good_from-short 0 bs (omega arith))
      ∙ ap (λ v. is_nonzero b && cond v (good_from 0 bs) (nat_le (run + 1) name_limit && good_from (run + 1) bs)) (sym slash)
  | inr inner ↦
      let e : short_after run (parts (b ∷ bs)) ≡ short_after (run + 1) (parts bs) =
      ap (short_after run) (parts-inner b bs inner) ∙ short_after-with_first run b (parts bs) in
      let rest : (list_all is_nonzero bs && short_after (run + 1) (parts bs)) ≡ (nat_le (run + 1) name_limit && good_from (run + 1) bs) =
      elim (cases_Bool (nat_le (run + 1) name_limit)) [
        | inl fits ↦ good_from-short (run + 1) bs (leb-true (run + 1) 255 fits) ∙ ap (λ v. v && good_from (run + 1) bs) (sym fits)
        | inr long ↦ and_right (list_all is_nonzero bs) (short_after (run + 1) (parts bs)) (short_after-long (run + 1) (parts bs) (leb-false (run + 1) 255 long)) ∙ ap (λ v. v && good_from (run + 1) bs) (sym long)
      ] in
      ap (λ v. list_all is_nonzero (b ∷ bs) && v) e
      ∙ and_shuffle (is_nonzero b) (list_all is_nonzero bs) (short_after (run + 1) (parts bs)) (nat_le (run + 1) name_limit && good_from (run + 1) bs) rest
      ∙ ap (λ v. is_nonzero b && cond v (good_from 0 bs) (nat_le (run + 1) name_limit && good_from (run + 1) bs)) (sym inner)
]

-- an empty part is short
list_all-short : (ps : List (List ℕ)) → list_all is_short (filter is_nonempty ps) ≡ list_all is_short ps
list_all-short [] = refl
list_all-short ([] ∷ ps) = list_all-short ps
list_all-short ((b ∷ p) ∷ ps) = grind (arith, filter-nonempty, list_all-short ps)

-- a path is good if it is short enough and good from its first byte on
pub good_path-from : (path : List ℕ) → is_good_path path ≡ (nat_le (length path) path_limit && good_from 0 path)
unfolding is_good_path
good_path-from path =
    grind (arith, is_nonzero, is_short, components-are, list_all-short, short_after-zero, good_from-short)

bad_from : (path : List ℕ) → good_from 0 path ≡ false → false ≡ is_good_path path
bad_from path h = sym (good_path-from path ∙ and_right (nat_le (length path) path_limit) (good_from 0 path) h)

pub bad_by_length : (path : List ℕ) → path_limit < length path → false ≡ is_good_path path
bad_by_length path h = grind (arith, good_path-from, and_left, lt-leb)

pub bad_at_zero : (path : List ℕ) (run i : ℕ) → i < length path → slice_index path i ≡ 0
    → good_from run (drop i path) ≡ good_from 0 path → false ≡ is_good_path path
bad_at_zero path run i l zero-byte rest = grind (arith, common_steps, bad_from, at_drop_more, eq-eqb)

pub bad_by_component : (path : List ℕ) (run i : ℕ) → i < length path → slice_index path i ≢ 47 → name_limit < run + 1
    → good_from run (drop i path) ≡ good_from 0 path → false ≡ is_good_path path
bad_by_component path run i l inner long rest =
    grind (arith, common_steps, bad_from, at_drop_more, ne_eqb, and_right, and_left, lt-leb)

pub good_to_the_end : (path : List ℕ) (run i : ℕ) → length path ≤ i → length path ≤ path_limit
    → good_from run (drop i path) ≡ good_from 0 path → true ≡ is_good_path path
good_to_the_end path run i l short rest =
    sym (good_path-from path ∙ and_from (nat_le (length path) path_limit) (good_from 0 path) (le-leb (length path) path_limit short) (sym rest ∙ at_drop_all (good_from run) path i l))

-- ---- what holds of each component

-- nonempty, at most 255 bytes, no byte 0, no `/`
abbrev pub is_good_component : List ℕ → Bool
is_good_component part = (is_nonempty part && is_short part) && (list_all is_nonzero part && list_all is_inner part)

abbrev pub is_octet : ℕ → Bool
is_octet b = nat_lt b 256

list_all-with_first : (p : ℕ → Bool) (b : ℕ) (ps : List (List ℕ)) → p b ≡ true → list_all (list_all p) ps ≡ true
    → list_all (list_all p) (with_first b ps) ≡ true
list_all-with_first p b [] h g = and_from (p b && true) true (and_from (p b) true h refl) refl
list_all-with_first p b (q ∷ ps) h g = cc

-- what holds of each byte holds of each byte of each part
pub list_all-parts : (p : ℕ → Bool) (bs : List ℕ) → list_all p bs ≡ true → list_all (list_all p) (parts bs) ≡ true
list_all-parts p [] h = ap (list_all (list_all p)) parts-nil
list_all-parts p (b ∷ bs) h =
    grind (arith, and_parts, cases_Bool, parts-slash, parts-inner, list_all-with_first, list_all-parts p bs)

-- no part contains a `/`
pub list_all-inner-parts : (bs : List ℕ) → list_all (list_all is_inner) (parts bs) ≡ true
list_all-inner-parts [] = ap (list_all (list_all is_inner)) parts-nil
list_all-inner-parts (b ∷ bs) =
    grind (arith, cases_Bool, parts-slash, parts-inner, list_all-with_first, not_from_false, list_all-inner-parts bs)

pub list_all-components : (p : ℕ → Bool) (bs : List ℕ) → list_all p bs ≡ true
    → list_all (list_all p) (components bs) ≡ true
list_all-components p bs h = grind (arith, components-are, list_all-filter, list_all-parts)

-- each component of a good path is nonempty and short, and has no byte 0 and no `/`
pub components-good : (path : List ℕ) → is_good_path path ≡ true → list_all is_good_component (components path) ≡ true
unfolding is_good_path
components-good path h =
    let a =
    and_parts (nat_le (length path) path_limit) (list_all is_nonzero path && list_all is_short (components path)) h in
    let b = and_parts (list_all is_nonzero path) (list_all is_short (components path)) a.1 in
    let nonempty : list_all is_nonempty (components path) ≡ true =
    ap (list_all is_nonempty) (components-are path) ∙ list_all-passes is_nonempty (parts path) in
    let nonzero : list_all (list_all is_nonzero) (components path) ≡ true = list_all-components is_nonzero path b.0 in
    let inner : list_all (list_all is_inner) (components path) ≡ true =
    ap (list_all (list_all is_inner)) (components-are path)
    ∙ list_all-filter (list_all is_inner) is_nonempty (parts path) (list_all-inner-parts path) in
    list_all-both (λ part. is_nonempty part && is_short part)
    (λ part. list_all is_nonzero part && list_all is_inner part) (components path)
    (list_all-both is_nonempty is_short (components path) nonempty b.1)
    (list_all-both (list_all is_nonzero) (list_all is_inner) (components path) nonzero inner)

name_bytes : (c : List ℕ) → list_all is_octet c ≡ true → list_all is_nonzero c ≡ true → list_all is_inner c ≡ true
    → list_all is_name_byte c ≡ true
name_bytes c bytes nonzero inner = simp (list_all-both, is_nonzero)

-- a good component of bytes is a name, but for `.` and `..`
pub good_component-is_name : (c : List ℕ) → is_good_component c ≡ true → list_all is_octet c ≡ true
    → is_dot c ≡ false → is_dot_dot c ≡ false → is_name c ≡ true
good_component-is_name c good bytes dot dots = grind (arith, and_parts, and_from, name_bytes, not_from_false)

-- the items of a `&[u8]` are bytes, as a proof knows them
pub list_all-octets : (c : List ℕ) → ((i : ℕ) → Fits w8 (get_or c i 0)) → list_all is_octet c ≡ true
list_all-octets [] h = refl
list_all-octets (b ∷ bs) h =
    let fits : Fits w8 b = h 0 in
    and_from (is_octet b) (list_all is_octet bs) (lt-ltb b 256 (omega arith)) (list_all-octets bs (λ i. h (suc i)))

step : (c : List ℕ) → is_good_component c ≡ true → list_all is_octet c ≡ true → is_step c ≡ true
step c good bytes = grind (arith, cases_Bool, good_component-is_name)

steps : (cs : List (List ℕ)) → list_all is_good_component cs ≡ true → list_all (list_all is_octet) cs ≡ true
    → list_all is_step cs ≡ true
steps [] good bytes = refl
steps (c ∷ cs) good bytes = grind (arith, and_parts, and_from, step, steps cs)

-- each component of a good path of bytes is `.`, `..` or a name
pub components-steps : (path : List ℕ) → is_good_path path ≡ true → list_all is_octet path ≡ true
    → list_all is_step (components path) ≡ true
components-steps path good bytes = grind (arith, steps, components-good, list_all-components)

pub ruleset component_laws = (components-steps)

pub ruleset inner_laws = (list_all-inner-parts)

-- ==== The places that absolute texts stand for.

-- ---- absolute texts

name-inner : (n : List ℕ) → is_name n ≡ true → list_all is_inner n ≡ true
name-inner n h = grind (arith, and_parts, list_all-weaker)

name-nonempty : (n : List ℕ) → is_name n ≡ true → is_nonempty n ≡ true
name-nonempty n h = grind (arith, and_parts)

parts-names : (n : List ℕ) (ns : Place) → is_name n ≡ true → are_names ns ≡ true
    → parts (n ++ flat_map (λ name. 47 ∷ name) ns) ≡ n ∷ ns
parts-names n [] h g = ap parts (append-nil n) ∙ parts-whole n (name-inner n h)
parts-names n (m ∷ ms) h g = grind (arith, and_parts, parts-append, name-inner, parts-names m ms)

-- the parts of the absolute text of a place other than the root
pub parts-absolute : (n : Name) (ns : Place) → are_names (n ∷ ns) ≡ true → parts (absolute (n ∷ ns)) ≡ [] ∷ n ∷ ns
parts-absolute n ns h = grind (arith, and_parts, parts-from_slash, parts-names)

-- the components of a place's absolute text are its names
pub components-absolute : (place : Place) → are_names place ≡ true → components (absolute place) ≡ place
components-absolute [] h = components-slash [] ∙ components-nil
components-absolute (n ∷ ns) h =
    grind (arith, components-are, parts-absolute, filter_all, list_all-weaker, name-nonempty)

pub is_absolute-absolute : (place : Place) → is_absolute (absolute place) ≡ true
is_absolute-absolute [] = refl
is_absolute-absolute (n ∷ ns) = refl

-- what a text that starts at the root begins with
pub is_absolute-begins : (text : List ℕ) → is_absolute text ≡ true
    → (begins_at_slash text ≡ true) × (parts text ≡ [] ∷ parts_after text) × (0 < length text)
is_absolute-begins [] h = absurd (false≢true h)
is_absolute-begins (b ∷ bs) h = (h, parts-slash b bs h, omega arith)

-- no two places have the same absolute text
pub absolute-injective : (p q : Place) → are_names p ≡ true → are_names q ≡ true → absolute p ≡ absolute q → p ≡ q
absolute-injective p q h g e = sym (components-absolute p h) ∙ ap components e ∙ components-absolute q g

-- a text with a part that is no name is no place's
pub not_absolute : (text : List ℕ) (place : Place) (part : List ℕ) (more : List (List ℕ)) → text ≢ 47 ∷ []
    → parts text ≡ [] ∷ (place ++ part ∷ more) → is_name part ≡ false → (q : Place) → are_names q ≡ true
    → text ≡ absolute q → ⊥
not_absolute text place part more apart cut bad [] names e = apart e
not_absolute text place part more apart cut bad (n ∷ ns) names e =
    let same : place ++ part ∷ more ≡ n ∷ ns = tail_same (sym cut ∙ ap parts e ∙ parts-absolute n ns names) in
    false≢true (sym bad ∙ list_all-between is_name place part more (ap (list_all is_name) same ∙ names))
  where
    tail_same : {xs ys : List (List ℕ)} → [] ∷ xs ≡ [] ∷ ys → xs ≡ ys
    tail_same h = cc

-- what is found of a place's text is the place
pub found-absolute : (place : Place) (found : Option Place) → are_names place ≡ true
    → IfSome found (λ p. IsTextOf (absolute place) p) → IfNone found ((p : Place) → IsTextOf (absolute place) p → ⊥)
    → found ≡ Some place
found-absolute place None names some none = absurd (none place (names, refl))
found-absolute place (Some p) names some none = ap (λ q. Some q) (absolute-injective p place some.0 names (sym some.1))

pub ruleset absolute_laws = (absolute-injective, found-absolute, is_absolute-absolute, components-absolute)
