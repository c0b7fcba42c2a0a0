-- The texts of fields, heads, entries and whole files: what is read of them, and how they are written piece by piece.
use Rattle.sftp_treefile.proofs.Imports.{◌≡◌, ℕ, ◌*◌, ◌<◌, ◌≤◌, ◌^◌, Bool, true, false, List, [], ◌∷◌, ◌++◌, length}
use Rattle.sftp_treefile.proofs.Imports.{take, drop, refl, sym, ap, ◌∙◌, append_assoc, arith, IsTrue, nat_eq, ◌||◌}
use Rattle.sftp_treefile.proofs.Imports.{flat_map, leb-true, and_parts, eqb-true, ltb-true, false≢true, length-append}
use Rattle.sftp_treefile.proofs.Imports.{uint32, uint64, string, components, is_good_path, Owner, Kind, Row, TreeLimits}
use Rattle.sftp_treefile.proofs.Imports.{owner_text, place_of, IsPlaceText, IsOwner, IsKind, ReadsNone, IsLongNumber}
use Rattle.sftp_treefile.proofs.Imports.{IsNumber, IsTarget, not-false, usual_limits, nat_lt}
use Rattle.sftp_treefile.proofs.Imports.{highest_limits, most_limits, AreLimits, AreRaised, are_own, are_far, AreRows}
use Rattle.sftp_treefile.proofs.Imports.{subst, Reads}
use Rattle.std.proofs.lemmas.Bool.{ltb-false, le-ltb}
use Rattle.std.proofs.lemmas.List.{take_at, drop_at}
use Rattle.std.proofs.lemmas.Nat.{from_be_bytes-to_be_bytes_4, from_be_bytes-to_be_bytes_8}
use Rattle.sftp_path.specs.Place.{Place, are_names, absolute, depth_limit}
use Rattle.sftp_path.specs.Place.{IsTextOf}
use Rattle.sftp_path.proofs.PathTexts.{components-absolute}
use Rattle.sftp_treefile.specs.declared.files.Kind.TheVariants as kinds
pub mod Entries
pub mod Heads
pub mod Files
pub mod Front
pub mod Two
pub mod Raised

-- ==== A field's text says what the field is and what follows it.

-- ---- numbers

pub number_front : (x y : ℕ) (r s : List ℕ) → IsNumber x → IsNumber y → uint32 x ++ r ≡ uint32 y ++ s
    → (x ≡ y) × (r ≡ s)
number_front x y r s x-fits y-fits e = grind (arith, take_at, drop_at, from_be_bytes-to_be_bytes_4)

pub long_front : (x y : ℕ) (r s : List ℕ) → IsLongNumber x → IsLongNumber y → uint64 x ++ r ≡ uint64 y ++ s
    → (x ≡ y) × (r ≡ s)
long_front x y r s x-fits y-fits e = grind (arith, take_at, drop_at, from_be_bytes-to_be_bytes_8)

-- ---- strings

-- of lists of one length, what they begin with, and what follows
pub counted_front : (t u r s : List ℕ) → length t ≡ length u → t ++ r ≡ u ++ s → (t ≡ u) × (r ≡ s)
counted_front t u r s same e = (
  sym (take_at t r (length t) refl) ∙ ap (take (length t)) e ∙ take_at u s (length t) (sym same),
  sym (drop_at t r (length t) refl) ∙ ap (drop (length t)) e ∙ drop_at u s (length t) (sym same),
)

pub string_front : (t u r s : List ℕ) → length t < 2 ^ 32 → length u < 2 ^ 32 → string t ++ r ≡ string u ++ s
    → (t ≡ u) × (r ≡ s)
string_front t u r s t-fits u-fits e =
    let n = number_front (length t) (length u) (t ++ r) (u ++ s) t-fits u-fits
    (sym (append_assoc (uint32 (length t)) t r) ∙ e ∙ append_assoc (uint32 (length u)) u s) in
    counted_front t u r s n.0 n.1

-- of strings that are short enough: no string, and one that does not fit
pub string_none_short : (Fits : List ℕ → Type 0) → ((text : List ℕ) → Fits text → length text < 2 ^ 32)
    → (bytes : List ℕ)
    → ((text rest : List ℕ) → length text < 2 ^ 32 → bytes ≡ string text ++ rest → ⊥) → ReadsNone Fits string bytes
string_none_short Fits short bytes none text rest fits e = none text rest (short text fits) e

pub string_none : (Fits : List ℕ → Type 0) → ((text : List ℕ) → Fits text → length text < 2 ^ 32)
    → (bytes text rest : List ℕ) → length text < 2 ^ 32 → bytes ≡ string text ++ rest
    → (Fits text → ⊥) → ReadsNone Fits string bytes
string_none Fits short bytes text rest text-fits is none other r fits e = grind (arith, string_front)

-- ---- texts of places

names_length : (place : Place) → IsTrue (are_names place)
    → length (flat_map (λ name. 47 ∷ name) place) ≤ 256 * length place
names_length [] named = omega arith
names_length (n ∷ ns) named = grind (arith, and_parts, leb-true, length-append, names_length ns)

absolute_length : (place : Place) → IsTrue (are_names place) → length place ≤ depth_limit
    → length (absolute place) ≤ 16384
absolute_length [] named deep = omega arith
absolute_length (n ∷ ns) named deep = omega (arith, names_length (n ∷ ns) named, deep)

pub path_short : (text : List ℕ) → IsPlaceText text → length text ≤ 16384
path_short text fits = omega (arith, ap length fits.one, absolute_length (place_of text) fits.names fits.depth)

pub path_length : (text : List ℕ) → IsPlaceText text → length text < 2 ^ 32
path_length text fits = omega (arith, path_short text fits)

pub path_front : (x y r s : List ℕ) → IsPlaceText x → IsPlaceText y → string x ++ r ≡ string y ++ s → (x ≡ y) × (r ≡ s)
path_front x y r s x-fits y-fits e = string_front x y r s (path_length x x-fits) (path_length y y-fits) e

-- the place of a text leads to it
pub place_is : (text : List ℕ) (place : Place) → IsTextOf text place → place ≡ place_of text
place_is text place is = sym (components-absolute place is.0) ∙ ap components (sym is.1)

pub place_text : (text : List ℕ) (place : Place) → IsTextOf text place → length place ≤ depth_limit → IsPlaceText text
place_text text place is deep = grind (arith, place_is)

pub too_deep : (text : List ℕ) (place : Place) → IsTextOf text place → depth_limit < length place → IsPlaceText text → ⊥
too_deep text place is deep fits = omega (arith, deep, fits.depth, ap length (place_is text place is))

-- ---- targets

pub target_short : (target : List ℕ) → IsTarget target → length target ≤ 4096
unfolding is_good_path
target_short target fits = grind (arith, and_parts, leb-true)

pub target_length : (target : List ℕ) → IsTarget target → length target < 2 ^ 32
target_length target fits = omega (arith, target_short target fits)

pub empty_target : (target : List ℕ) → nat_eq (length target) 0 ≡ true → IsTarget target → ⊥
empty_target target empty fits = grind (arith, eqb-true, ltb-true, and_parts)

pub bad_target : (target : List ℕ) → is_good_path target ≡ false → IsTarget target → ⊥
bad_target target bad fits = grind (arith, false≢true, and_parts)

-- ---- owners

pub same_owner : (x y : Owner) → x.uid ≡ y.uid → x.gid ≡ y.gid → x.permissions ≡ y.permissions → x ≡ y
same_owner x y p q r = λ i. record { uid = p i; gid = q i; permissions = r i }

owner_parts : (x : Owner) (r : List ℕ)
    → owner_text x ++ r ≡ uint32 x.uid ++ (uint32 x.gid ++ (uint32 x.permissions ++ r))
owner_parts x r = cc

pub owner_front : (x y : Owner) (r s : List ℕ) → IsOwner x → IsOwner y → owner_text x ++ r ≡ owner_text y ++ s
    → (x ≡ y) × (r ≡ s)
owner_front x y r s x-fits y-fits e = grind (arith, number_front, owner_parts, same_owner)

-- ==== The ranges of limits, and what they bound.

pub usual_are : AreRaised usual_limits
usual_are = record { entries = (omega arith, omega arith); file_bytes = (omega arith, omega arith); read_bytes = (omega arith, omega arith); open_handles = (omega arith, omega arith); total_bytes = (omega arith, omega arith) }

pub highest_are : AreRaised highest_limits
highest_are = record { entries = (omega arith, omega arith); file_bytes = (omega arith, omega arith); read_bytes = (omega arith, omega arith); open_handles = (omega arith, omega arith); total_bytes = (omega arith, omega arith) }

pub most_are : AreLimits most_limits
most_are = record { entries = (omega arith, omega arith); file_bytes = (omega arith, omega arith); read_bytes = (omega arith, omega arith); open_handles = (omega arith, omega arith); total_bytes = (omega arith, omega arith) }

-- the limits after the second opening are limits of a tree
pub raised_are : (limits : TreeLimits) → AreRaised limits → AreLimits limits
raised_are limits are = record {
  entries = (are.entries.0, omega (arith, are.entries.1));
  file_bytes = (are.file_bytes.0, omega (arith, are.file_bytes.1));
  read_bytes = (are.read_bytes.0, omega (arith, are.read_bytes.1));
  open_handles = (are.open_handles.0, omega (arith, are.open_handles.1));
  total_bytes = (omega (arith, are.total_bytes.0), are.total_bytes.1);
}

pub usual_not_own : are_own usual_limits ≡ false
unfolding are_own
usual_not_own = refl

-- limits that are not a tree's own are the usual ones
pub not_own : (limits : TreeLimits) → are_own limits ≡ false → limits ≡ usual_limits
unfolding are_own
not_own limits none =
    let all = and_parts _ _ (not-false _ none) in
    let four = and_parts _ _ all.1 in
    let three = and_parts _ _ four.1 in
    let two = and_parts _ _ three.1 in
    let entries = eqb-true limits.entries usual_limits.entries all.0 in
    let file_bytes = eqb-true limits.file_bytes usual_limits.file_bytes four.0 in
    let read_bytes = eqb-true limits.read_bytes usual_limits.read_bytes three.0 in
    let open_handles = eqb-true limits.open_handles usual_limits.open_handles two.0 in
    let total_bytes = eqb-true limits.total_bytes usual_limits.total_bytes two.1 in
    λ i. record { entries = entries i; file_bytes = file_bytes i; read_bytes = read_bytes i; open_handles = open_handles i; total_bytes = total_bytes i }

or_false : (a b : Bool) → a || b ≡ false → (a ≡ false) × (b ≡ false)
or_false false b e = (refl, e)
or_false true b e = absurd (false≢true (sym e))

-- limits that are not beyond those of the second opening
pub not_far : (limits : TreeLimits) → AreLimits limits → are_far limits ≡ false → AreRaised limits
unfolding are_far
not_far limits are near =
    let all = or_false _ _ near in
    let four = or_false _ _ all.1 in
    let three = or_false _ _ four.1 in
    let two = or_false _ _ three.1 in
    record {
      entries = (are.entries.0, ltb-false highest_limits.entries limits.entries all.0);
      file_bytes = (are.file_bytes.0, ltb-false highest_limits.file_bytes limits.file_bytes four.0);
      read_bytes = (are.read_bytes.0, ltb-false highest_limits.read_bytes limits.read_bytes three.0);
      open_handles = (are.open_handles.0, ltb-false highest_limits.open_handles limits.open_handles two.0);
      total_bytes = (ltb-false limits.total_bytes highest_limits.total_bytes two.1, are.total_bytes.1);
    }

pub raised_near : (limits : TreeLimits) → AreRaised limits → are_far limits ≡ false
unfolding are_far
raised_near limits are =
    let entries = le-ltb highest_limits.entries limits.entries are.entries.1 in
    let file_bytes = le-ltb highest_limits.file_bytes limits.file_bytes are.file_bytes.1 in
    let read_bytes = le-ltb highest_limits.read_bytes limits.read_bytes are.read_bytes.1 in
    let open_handles = le-ltb highest_limits.open_handles limits.open_handles are.open_handles.1 in
    let total_bytes = le-ltb limits.total_bytes highest_limits.total_bytes are.total_bytes.0 in
    λ i. entries i || (file_bytes i || (read_bytes i || (open_handles i || total_bytes i)))

kind_wider : (low high : TreeLimits) → low.file_bytes ≤ high.file_bytes → (earlier : List Row) (kind : Kind) → IsKind low earlier kind → IsKind high earlier kind
kind_wider low high le earlier (kinds.Dir owner) fits = fits
kind_wider low high le earlier (kinds.First owner bytes) fits = (fits.0, omega (arith, le, fits.1), fits.2)
kind_wider low high le earlier (kinds.Further number) fits = fits
kind_wider low high le earlier (kinds.Link target) fits = fits

-- what keeps to the limits keeps to higher ones
pub rows_wider : (low high : TreeLimits) → low.file_bytes ≤ high.file_bytes → (earlier rows : List Row) → AreRows low earlier rows → AreRows high earlier rows
rows_wider low high le earlier [] fit = tt
rows_wider low high le earlier (row ∷ rows) fit = (
  record { path = fit.0.path; below_root = fit.0.below_root; later = fit.0.later; parent = fit.0.parent; kind = kind_wider low high le earlier row.kind fit.0.kind },
  rows_wider low high le (earlier ++ row ∷ []) rows fit.1,
)

-- ==== A text of two parts, the second of which may depend on the value of the first, and values that are seen as such
-- pairs.

-- bytes start with the text of one value
abbrev pub IsOne : {A : Type 0} → (A → Type 0) → (A → List ℕ) → Type 0
IsOne {A} Fits text = (x y : A) (r s : List ℕ) → Fits x → Fits y → text x ++ r ≡ text y ++ s → (x ≡ y) × (r ≡ s)

abbrev pub Both : {A B : Type 0} → (A → Type 0) → (A → B → Type 0) → A × B → Type 0
Both One Other both = One both.0 × Other both.0 both.1

abbrev pub both_text : {A B : Type 0} → (A → List ℕ) → (A → B → List ℕ) → A × B → List ℕ
both_text first second both = first both.0 ++ second both.0 both.1

module _ {A B : Type 0} (One : A → Type 0) (first : A → List ℕ) (Other : A → B → Type 0) (second : A → B → List ℕ) where
  parts : (both : A × B) (r : List ℕ) → both_text first second both ++ r ≡ first both.0 ++ (second both.0 both.1 ++ r)
  parts both r = append_assoc (first both.0) (second both.0 both.1) r

  pub no_first : (bytes : List ℕ) → ReadsNone One first bytes
      → ReadsNone (Both One Other) (both_text first second) bytes
  no_first bytes none both rest fits e =
      none both.0 (second both.0 both.1 ++ rest) fits.0 (e ∙ parts both rest)

  pub no_second : IsOne One first → (bytes middle : List ℕ) (a : A) → Reads One first bytes a middle
      → ReadsNone (Other a) (second a) middle → ReadsNone (Both One Other) (both_text first second) bytes
  no_second one bytes middle a read none both rest fits e =
      let same = one a both.0 middle (second both.0 both.1 ++ rest) read.0 fits.0 (sym read.1 ∙ e ∙ parts both rest) in
      subst (λ (x : A). ReadsNone (Other x) (second x) middle) same.0 none both.1 rest fits.1 same.1

  pub both_one : IsOne One first → ((a : A) → One a → IsOne (Other a) (second a))
      → IsOne (Both One Other) (both_text first second)
  both_one one ones x y r s x-fits y-fits e =
      let same = one x.0 y.0 (second x.0 x.1 ++ r) (second y.0 y.1 ++ s) x-fits.0 y-fits.0
      (sym (parts x r) ∙ e ∙ parts y s) in
      let fits = subst (λ (a : A). Other a y.1) (sym same.0) y-fits.1 in
      let next = ones x.0 x-fits.0 x.1 y.1 r s x-fits.1 fits (same.1 ∙ ap (λ (a : A). second a y.1 ++ s) (sym same.0)) in
      ((λ i. (same.0 i, next.0 i)), next.1)

  pub both_read : (bytes middle rest : List ℕ) (a : A) (b : B) → Reads One first bytes a middle
      → Reads (Other a) (second a) middle b rest → Reads (Both One Other) (both_text first second) bytes (a, b) rest
  both_read bytes middle rest a b front back =
      ((front.0, back.0), front.1 ∙ ap (λ (m : List ℕ). first a ++ m) back.1 ∙ sym (parts (a, b) rest))

-- a value that is seen as another, whose text is the same
module _ {C D : Type 0} (Whole : C → Type 0) (whole : C → List ℕ) (Seen : D → Type 0) (seen : D → List ℕ) (view : C → D)
    (fits : (c : C) → Whole c → Seen (view c)) (same : (c : C) → whole c ≡ seen (view c)) where
  pub none_as : (bytes : List ℕ) → ReadsNone Seen seen bytes → ReadsNone Whole whole bytes
  none_as bytes none c rest whole-fits e =
      none (view c) rest (fits c whole-fits) (e ∙ ap (λ (text : List ℕ). text ++ rest) (same c))

  pub one_as : ((c d : C) → view c ≡ view d → c ≡ d) → IsOne Seen seen → IsOne Whole whole
  one_as back one x y r s x-fits y-fits e =
      let found = one (view x) (view y) r s (fits x x-fits) (fits y y-fits)
      (sym (ap (λ (text : List ℕ). text ++ r) (same x)) ∙ e ∙ ap (λ (text : List ℕ). text ++ s) (same y)) in
      (back x y found.0, found.1)
