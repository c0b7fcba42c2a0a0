-- The texts of what an entry says behind its path: owners and times, lengths, and whole kinds. A letter says which
-- fields follow.
use Rattle.sftp_treefile.proofs.Imports.{◌≡◌, ℕ, get_or, ◌<◌, ◌≤◌, ◌^◌, Bool, true, false, List, [], ◌∷◌, ◌++◌, length}
use Rattle.sftp_treefile.proofs.Imports.{drop, refl, sym, ap, subst, ◌∙◌, append_assoc, arith, and_parts, eqb-true}
use Rattle.sftp_treefile.proofs.Imports.{not-false, false≢true, uint32, uint64, string, nat_le, ◌==◌, ◌||◌, leb-true}
use Rattle.sftp_treefile.proofs.Imports.{Owner, Kind, Row, Times, TreeLimits, owner_text, IsOwner, IsTarget, Reads}
use Rattle.sftp_treefile.proofs.Imports.{ReadsNone, IsNumber, IsLongNumber, IsFirstAmong, is_file_letter}
use Rattle.sftp_treefile.proofs.Imports.{has_times, no_times, times_text, letter_for, file_letter, is_long, length_text}
use Rattle.sftp_treefile.proofs.Imports.{owned_text, timed_text, AreTimes, AreGiven, IsGivenOwner, given_owner_text}
use Rattle.sftp_treefile.proofs.Imports.{IsGivenLength, IsKnownIn, directory_text, IsOwnedIn, AreTimesIn, IsLengthIn}
use Rattle.sftp_treefile.proofs.Imports.{IsTimedKind, IsFileStart, file_start_text, IsFile, file_text}
use Rattle.std.specs.Prelude.{if◌then◌else◌}
use Rattle.sftp_treefile.proofs.Imports.{suc, zero, any_times}
use Rattle.std.proofs.lemmas.Bool.{leb-false, le-leb, lt-leb}
use Rattle.sftp_treefile.specs.declared.files.Kind.TheVariants.{Dir, First, Further, Link}
use Rattle.sftp_treefile.proofs.Texts.{number_front, long_front, counted_front, string_front, target_length, owner_front}
use Rattle.sftp_treefile.proofs.Texts.{IsOne, Both, both_text, no_first, no_second, both_one, both_read, none_as, one_as}

-- ---- two numbers

abbrev pub AreNumbers : ℕ × ℕ → Type 0
AreNumbers = Both IsNumber (λ (first : ℕ). IsNumber)

abbrev pub numbers_text : ℕ × ℕ → List ℕ
numbers_text = both_text uint32 (λ (first : ℕ). uint32)

pub numbers_one : IsOne AreNumbers numbers_text
numbers_one = both_one IsNumber uint32 (λ first. IsNumber) (λ first. uint32) number_front (λ first fits. number_front)

-- ---- times that are known

-- from this place on
any_from : (times : List Times) (i : ℕ) (time : Times) → i < length times → time ≡ get_or times i time
    → any_times (drop i times) ≡ has_times time || any_times (drop (suc i) times)
any_from [] i time lt is = absurd (omega arith)
any_from (t ∷ times) zero time lt is = ap (λ (x : Times). has_times x || any_times times) (sym is)
any_from (t ∷ times) (suc i) time lt is = any_from times i time (omega arith) is

pub any_here : (times : List Times) (i : ℕ) (time : Times) → i < length times → time ≡ get_or times i time
    → has_times time ≡ true → any_times (drop i times) ≡ true
any_here times i time lt is known =
    any_from times i time lt is ∙ ap (λ (b : Bool). b || any_times (drop (suc i) times)) known

pub any_next : (times : List Times) (i : ℕ) (time : Times) → i < length times → time ≡ get_or times i time
    → has_times time ≡ false → any_times (drop (suc i) times) ≡ any_times (drop i times)
any_next times i time lt is none =
    sym (any_from times i time lt is ∙ ap (λ (b : Bool). b || any_times (drop (suc i) times)) none)

pub any_end : (times : List Times) (i : ℕ) → length times ≤ i → any_times (drop i times) ≡ false
any_end [] zero le = refl
any_end [] (suc i) le = refl
any_end (t ∷ times) zero le = absurd (omega arith)
any_end (t ∷ times) (suc i) le = any_end times i (omega arith)

-- ---- times, by whether there are some

-- where none are known both are 0
pub none_known : (times : Times) → has_times times ≡ false → times ≡ no_times
none_known times none =
    let both = and_parts _ _ (not-false _ none) in
    let accessed = eqb-true times.accessed 0 both.0 in
    let modified = eqb-true times.modified 0 both.1 in
    λ i. record { accessed = accessed i; modified = modified i }

abbrev pub times_view : Times → ℕ × ℕ
times_view times = (times.accessed, times.modified)

given_fit : (times : Times) → AreGiven true times → AreNumbers (times_view times)
given_fit times fits = (fits.0.0, fits.0.1)

none_given : (bytes : List ℕ) → ReadsNone AreNumbers numbers_text bytes → ReadsNone (AreGiven true) (times_text true) bytes
none_given bytes none =
    none_as (AreGiven true) (times_text true) AreNumbers numbers_text times_view given_fit (λ times. refl) bytes none

pub accessed_none : (bytes : List ℕ) → ReadsNone IsNumber uint32 bytes → ReadsNone (AreGiven true) (times_text true) bytes
accessed_none bytes none = none_given bytes (no_first IsNumber uint32 (λ first. IsNumber) (λ first. uint32) bytes none)

pub modified_none : (bytes r : List ℕ) (accessed : ℕ) → Reads IsNumber uint32 bytes accessed r
    → ReadsNone IsNumber uint32 r → ReadsNone (AreGiven true) (times_text true) bytes
modified_none bytes r accessed read none = none_given bytes
    (no_second IsNumber uint32 (λ first. IsNumber) (λ first. uint32) number_front bytes r accessed read none)

-- both numbers are there
module _ (bytes r rest : List ℕ) (accessed modified : ℕ) (first : Reads IsNumber uint32 bytes accessed r)
    (second : Reads IsNumber uint32 r modified rest) where
  both_times : Reads AreNumbers numbers_text bytes (accessed, modified) rest
  both_times = both_read IsNumber uint32 (λ first. IsNumber) (λ first. uint32) bytes r rest accessed modified first second

  pub times_read : has_times (record { accessed = accessed; modified = modified }) ≡ true
      → Reads (AreGiven true) (times_text true) bytes (record { accessed = accessed; modified = modified }) rest
  times_read known = (((first.0, second.0), known), both_times.1)

  pub zeros_none : has_times (record { accessed = accessed; modified = modified }) ≡ false
      → ReadsNone (AreGiven true) (times_text true) bytes
  zeros_none none times r fits e =
      let same = numbers_one (accessed, modified) (times_view times) rest r both_times.0 (given_fit times fits)
      (sym both_times.1 ∙ e) in
      let known = ap (λ (v : ℕ × ℕ). has_times (record { accessed = v.0; modified = v.1 })) same.0 in
      false≢true (sym none ∙ known ∙ fits.1)

pub given_one : (timed : Bool) → IsOne (AreGiven timed) (times_text timed)
given_one false x y r s x-fits y-fits e = (none_known x x-fits.1 ∙ sym (none_known y y-fits.1), e)
given_one true x y r s x-fits y-fits e = one_as (AreGiven true) (times_text true) AreNumbers numbers_text times_view
    given_fit (λ times. refl) (λ x y e. (λ i. record { accessed = (e i).0; modified = (e i).1 })) numbers_one
    x y r s x-fits y-fits e

pub no_times_read : (bytes : List ℕ) → Reads (AreGiven false) (times_text false) bytes no_times bytes
no_times_read bytes = (((omega arith, omega arith), refl), refl)

-- ---- an owner, and times

pub given_owner_one : (timed : Bool) → IsOne (IsGivenOwner timed) (given_owner_text timed)
given_owner_one timed =
    both_one IsOwner owner_text (λ owner. AreGiven timed) (λ owner. times_text timed) owner_front
    (λ owner fits. given_one timed)

pub given_owner_none : (timed : Bool) (bytes : List ℕ) → ReadsNone IsOwner owner_text bytes
    → ReadsNone (IsGivenOwner timed) (given_owner_text timed) bytes
given_owner_none timed bytes none =
    no_first IsOwner owner_text (λ owner. AreGiven timed) (λ owner. times_text timed) bytes none

pub given_times_none : (timed : Bool) (bytes r : List ℕ) (owner : Owner) → Reads IsOwner owner_text bytes owner r
    → ReadsNone (AreGiven timed) (times_text timed) r → ReadsNone (IsGivenOwner timed) (given_owner_text timed) bytes
given_times_none timed bytes r owner read none = no_second IsOwner owner_text (λ owner. AreGiven timed)
    (λ owner. times_text timed) owner_front bytes r owner read none

pub given_owner_read : (timed : Bool) (bytes r rest : List ℕ) (owner : Owner) (times : Times)
    → Reads IsOwner owner_text bytes owner r → Reads (AreGiven timed) (times_text timed) r times rest
    → Reads (IsGivenOwner timed) (given_owner_text timed) bytes (owner, times) rest
given_owner_read timed bytes r rest owner times first second = both_read IsOwner owner_text (λ owner. AreGiven timed)
    (λ owner. times_text timed) bytes r rest owner times first second

-- times that the opening allows are given by whether there are some, and the other way round
pub times_given : (wide : Bool) (times : Times) → AreTimesIn wide times
    → IsKnownIn wide (has_times times) × AreGiven (has_times times) times
times_given false times fits = (
  λ known. absurd (false≢true (ap has_times (sym fits) ∙ known)),
  (subst AreTimes (sym fits) (omega arith, omega arith), refl),
)
times_given true times fits = (λ known. refl, (fits, refl))

pub times_allowed : (wide timed : Bool) (times : Times) → IsKnownIn wide timed → AreGiven timed times
    → AreTimesIn wide times
times_allowed true timed times known fits = fits.0
times_allowed false false times known fits = none_known times fits.1
times_allowed false true times known fits = absurd (false≢true (known refl))

-- ---- lengths

pub short_read : (bytes rest : List ℕ) (count : ℕ) → Reads IsNumber uint32 bytes count rest
    → Reads (IsGivenLength false) (length_text false) bytes count rest
short_read bytes rest count read = ((omega (arith, read.0), is_short count read.0), read.1)
  where
    is_short : (count : ℕ) → count < 2 ^ 32 → is_long count ≡ false
    is_short count lt = lt-leb (2 ^ 32) count lt

pub short_none : (bytes : List ℕ) → ReadsNone IsNumber uint32 bytes
    → ReadsNone (IsGivenLength false) (length_text false) bytes
short_none bytes none count rest fits e = none count rest (leb-false (2 ^ 32) count fits.1) e

pub long_read : (bytes rest : List ℕ) (count : ℕ) → Reads IsLongNumber uint64 bytes count rest → 2 ^ 32 ≤ count
    → Reads (IsGivenLength true) (length_text true) bytes count rest
long_read bytes rest count read le = ((read.0, le-leb (2 ^ 32) count le), read.1)

pub long_none : (bytes : List ℕ) → ReadsNone IsLongNumber uint64 bytes
    → ReadsNone (IsGivenLength true) (length_text true) bytes
long_none bytes none count rest fits e = none count rest fits.0 e

-- a length that is not long has no long text
pub too_short : (bytes rest : List ℕ) (count : ℕ) → Reads IsLongNumber uint64 bytes count rest → count < 2 ^ 32
    → ReadsNone (IsGivenLength true) (length_text true) bytes
too_short bytes rest count read lt other r fits e =
    let same = long_front count other rest r read.0 fits.0 (sym read.1 ∙ e) in
    omega (arith, lt, same.0, leb-true (2 ^ 32) other fits.1)

pub length_one : (long : Bool) → IsOne (IsGivenLength long) (length_text long)
length_one false x y r s x-fits y-fits e =
    number_front x y r s (leb-false (2 ^ 32) x x-fits.1) (leb-false (2 ^ 32) y y-fits.1) e
length_one true x y r s x-fits y-fits e = long_front x y r s x-fits.0 y-fits.0 e

pub length_given : (wide : Bool) (count : ℕ) → IsLengthIn wide count
    → IsKnownIn wide (is_long count) × IsGivenLength (is_long count) count
length_given false count fits = (
  λ long. absurd (omega (arith, fits, leb-true (2 ^ 32) count long)),
  (omega (arith, fits), refl),
)
length_given true count fits = (λ long. refl, (fits, refl))

pub length_allowed : (wide long : Bool) (count : ℕ) → IsKnownIn wide long → IsGivenLength long count
    → IsLengthIn wide count
length_allowed true long count known fits = fits.0
length_allowed false false count known fits = leb-false (2 ^ 32) count fits.1
length_allowed false true count known fits = absurd (false≢true (known refl))

-- ==== Letters, and what follows them.

-- ---- directories

-- no letter that an opening knows
pub letter_unknown : (wide : Bool) (letter : ℕ) → (letter ≡ 68 → ⊥) → (letter ≡ 100 → wide ≡ true → ⊥)
    → (timed : Bool) → IsKnownIn wide timed → letter ≡ letter_for timed 68 → ⊥
letter_unknown wide letter no_plain no_timed false known e = no_plain e
letter_unknown wide letter no_plain no_timed true known e = no_timed e (known refl)

abbrev pub directory_mark : Bool → List ℕ
directory_mark timed = letter_for timed 68 ∷ []

mark_one : (wide : Bool) → IsOne (IsKnownIn wide) directory_mark
mark_one wide false false r s x-fits y-fits e = (refl, ap (drop 1) e)
mark_one wide true true r s x-fits y-fits e = (refl, ap (drop 1) e)
mark_one wide false true r s x-fits y-fits e = absurd (omega (arith, ap (λ (l : List ℕ). get_or l 0 0) e))
mark_one wide true false r s x-fits y-fits e = absurd (omega (arith, ap (λ (l : List ℕ). get_or l 0 0) e))

abbrev pub IsMarked : Bool → Bool × (Owner × Times) → Type 0
IsMarked wide = Both (IsKnownIn wide) IsGivenOwner

abbrev pub marked_text : Bool × (Owner × Times) → List ℕ
marked_text = both_text directory_mark given_owner_text

abbrev pub directory_view : Owner × Times → Bool × (Owner × Times)
directory_view owned = (has_times owned.1, owned)

directory_fits : (wide : Bool) (owned : Owner × Times) → IsOwnedIn wide owned → IsMarked wide (directory_view owned)
directory_fits wide owned fits =
    let given = times_given wide owned.1 fits.1 in
    (given.0, (fits.0, given.1))

pub directory_one : (wide : Bool) → IsOne (IsOwnedIn wide) directory_text
directory_one wide = one_as (IsOwnedIn wide) directory_text (IsMarked wide) marked_text directory_view (directory_fits wide)
    (λ owned. refl) (λ x y e. ap (λ (v : Bool × (Owner × Times)). v.1) e)
    (both_one (IsKnownIn wide) directory_mark IsGivenOwner given_owner_text (mark_one wide) (λ timed fits. given_owner_one timed))

none_marked : (wide : Bool) (bytes : List ℕ) → ReadsNone (IsMarked wide) marked_text bytes
    → ReadsNone (IsOwnedIn wide) directory_text bytes
none_marked wide bytes none = none_as (IsOwnedIn wide) directory_text (IsMarked wide) marked_text directory_view
    (directory_fits wide) (λ owned. refl) bytes none

pub directory_absent : (wide : Bool) (bytes : List ℕ) → bytes ≡ [] → ReadsNone (IsOwnedIn wide) directory_text bytes
directory_absent wide bytes nothing owned rest fits e = absurd (omega (arith, ap length (sym nothing ∙ e)))

-- the bytes begin with this letter
module _ (wide : Bool) (bytes rest : List ℕ) (letter : ℕ) (is : bytes ≡ letter ∷ rest) where
  pub directory_unknown : ((timed : Bool) → IsKnownIn wide timed → letter ≡ letter_for timed 68 → ⊥)
      → ReadsNone (IsOwnedIn wide) directory_text bytes
  directory_unknown none = none_marked wide bytes
      (no_first (IsKnownIn wide) directory_mark IsGivenOwner given_owner_text bytes
      (λ timed r known e. none timed known (ap (λ (l : List ℕ). get_or l 0 0) (sym is ∙ e))))

  module _ (timed : Bool) (known : IsKnownIn wide timed) (here : letter ≡ letter_for timed 68) where
    mark_read : Reads (IsKnownIn wide) directory_mark bytes timed rest
    mark_read = (known, is ∙ ap (λ (n : ℕ). n ∷ rest) here)

    pub directory_none : ReadsNone (IsGivenOwner timed) (given_owner_text timed) rest
        → ReadsNone (IsOwnedIn wide) directory_text bytes
    directory_none none = none_marked wide bytes
        (no_second (IsKnownIn wide) directory_mark IsGivenOwner given_owner_text (mark_one wide) bytes rest timed mark_read none)

    pub directory_read : (owned : Owner × Times) (after : List ℕ)
        → Reads (IsGivenOwner timed) (given_owner_text timed) rest owned after
        → Reads (IsOwnedIn wide) directory_text bytes owned after
    directory_read owned after read =
        let whole = both_read (IsKnownIn wide) directory_mark IsGivenOwner given_owner_text bytes rest after timed owned mark_read read in (
          (read.0.0, times_allowed wide timed owned.1 known read.0.1),
          whole.1 ∙ ap (λ (b : Bool). (directory_mark b ++ given_owner_text b owned) ++ after) (sym read.0.1.1),
        )

-- ---- first names

pub form_unknown : (wide : Bool) (letter : ℕ) → (letter ≡ 70 → ⊥)
    → (wide ≡ true → (letter ≡ 102 → ⊥) × (letter ≡ 71 → ⊥) × (letter ≡ 103 → ⊥))
    → (timed long : Bool) → IsKnownIn wide timed → IsKnownIn wide long → letter ≡ letter_for timed (file_letter long) → ⊥
form_unknown wide letter no_plain none false false known also e = no_plain e
form_unknown wide letter no_plain none true false known also e = (none (known refl)).0 e
form_unknown wide letter no_plain none false true known also e = (none (also refl)).1 e
form_unknown wide letter no_plain none true true known also e = (none (known refl)).2 e

abbrev pub form_mark : Bool × Bool → List ℕ
form_mark form = letter_for form.0 (file_letter form.1) ∷ []

-- a form is known to an opening
abbrev pub IsForm : Bool → Bool × Bool → Type 0
IsForm wide form = IsKnownIn wide form.0 × IsKnownIn wide form.1

-- what a letter says
form_of : ℕ → Bool × Bool
form_of letter = (nat_le 97 letter, letter == 71 || letter == 103)

form_is : (form : Bool × Bool) → form_of (letter_for form.0 (file_letter form.1)) ≡ form
unfolding form_of
form_is (false, false) = refl
form_is (false, true) = refl
form_is (true, false) = refl
form_is (true, true) = refl

form_one : (wide : Bool) → IsOne (IsForm wide) form_mark
form_one wide x y r s x-fits y-fits e =
    let same = ap (λ (l : List ℕ). get_or l 0 0) e in
    (sym (form_is x) ∙ ap form_of same ∙ form_is y, ap (drop 1) e)

abbrev pub IsGivenStart : Bool × Bool → (Owner × Times) × ℕ → Type 0
IsGivenStart form = Both (IsGivenOwner form.0) (λ (owned : Owner × Times). IsGivenLength form.1)

abbrev pub given_start_text : Bool × Bool → (Owner × Times) × ℕ → List ℕ
given_start_text form = both_text (given_owner_text form.0) (λ (owned : Owner × Times). length_text form.1)

given_start_one : (form : Bool × Bool) → IsOne (IsGivenStart form) (given_start_text form)
given_start_one form = both_one (IsGivenOwner form.0) (given_owner_text form.0) (λ owned. IsGivenLength form.1)
    (λ owned. length_text form.1) (given_owner_one form.0) (λ owned fits. length_one form.1)

abbrev pub IsFormed : Bool → (Bool × Bool) × ((Owner × Times) × ℕ) → Type 0
IsFormed wide = Both (IsForm wide) IsGivenStart

abbrev pub formed_text : (Bool × Bool) × ((Owner × Times) × ℕ) → List ℕ
formed_text = both_text form_mark given_start_text

abbrev pub start_view : Owner × (Times × ℕ) → (Bool × Bool) × ((Owner × Times) × ℕ)
start_view start = ((has_times start.1.0, is_long start.1.1), ((start.0, start.1.0), start.1.1))

start_fits : (wide : Bool) (start : Owner × (Times × ℕ)) → IsFileStart wide start → IsFormed wide (start_view start)
start_fits wide start fits =
    let times = times_given wide start.1.0 fits.1.0 in
    let count = length_given wide start.1.1 fits.1.1 in
    ((times.0, count.0), ((fits.0, times.1), count.1))

start_same : (start : Owner × (Times × ℕ)) → file_start_text start ≡ formed_text (start_view start)
start_same start = refl

pub start_one : (wide : Bool) → IsOne (IsFileStart wide) file_start_text
start_one wide = one_as (IsFileStart wide) file_start_text (IsFormed wide) formed_text start_view (start_fits wide)
    start_same (λ x y e. (λ i. ((e i).1.0.0, ((e i).1.0.1, (e i).1.1))))
    (both_one (IsForm wide) form_mark IsGivenStart given_start_text (form_one wide) (λ form fits. given_start_one form))

none_formed : (wide : Bool) (bytes : List ℕ) → ReadsNone (IsFormed wide) formed_text bytes
    → ReadsNone (IsFileStart wide) file_start_text bytes
none_formed wide bytes none = none_as (IsFileStart wide) file_start_text (IsFormed wide) formed_text start_view
    (start_fits wide) start_same bytes none

pub start_absent : (wide : Bool) (bytes : List ℕ) → bytes ≡ [] → ReadsNone (IsFileStart wide) file_start_text bytes
start_absent wide bytes nothing start rest fits e = absurd (omega (arith, ap length (sym nothing ∙ e)))

module _ (wide : Bool) (bytes rest : List ℕ) (letter : ℕ) (is : bytes ≡ letter ∷ rest) where
  pub start_unknown : ((timed long : Bool) → IsKnownIn wide timed → IsKnownIn wide long
      → letter ≡ letter_for timed (file_letter long) → ⊥) → ReadsNone (IsFileStart wide) file_start_text bytes
  start_unknown none = none_formed wide bytes
      (no_first (IsForm wide) form_mark IsGivenStart given_start_text bytes
      (λ form r known e. none form.0 form.1 known.0 known.1 (ap (λ (l : List ℕ). get_or l 0 0) (sym is ∙ e))))

  module _ (form : Bool × Bool) (known : IsForm wide form) (here : letter ≡ letter_for form.0 (file_letter form.1)) where
    form_read : Reads (IsForm wide) form_mark bytes form rest
    form_read = (known, is ∙ ap (λ (n : ℕ). n ∷ rest) here)

    none_started : ReadsNone (IsGivenStart form) (given_start_text form) rest
        → ReadsNone (IsFileStart wide) file_start_text bytes
    none_started none = none_formed wide bytes
        (no_second (IsForm wide) form_mark IsGivenStart given_start_text (form_one wide) bytes rest form form_read none)

    pub start_owner_none : ReadsNone (IsGivenOwner form.0) (given_owner_text form.0) rest
        → ReadsNone (IsFileStart wide) file_start_text bytes
    start_owner_none none = none_started
        (no_first (IsGivenOwner form.0) (given_owner_text form.0) (λ owned. IsGivenLength form.1) (λ owned. length_text form.1) rest none)

    module _ (owned : Owner × Times) (middle : List ℕ)
        (first : Reads (IsGivenOwner form.0) (given_owner_text form.0) rest owned middle) where
      pub start_length_none : ReadsNone (IsGivenLength form.1) (length_text form.1) middle
          → ReadsNone (IsFileStart wide) file_start_text bytes
      start_length_none none = none_started
          (no_second (IsGivenOwner form.0) (given_owner_text form.0) (λ owned. IsGivenLength form.1) (λ owned. length_text form.1) (given_owner_one form.0) rest middle owned first none)

      pub start_read : (count : ℕ) (after : List ℕ) → Reads (IsGivenLength form.1) (length_text form.1) middle count after
          → Reads (IsFileStart wide) file_start_text bytes (owned.0, (owned.1, count)) after
      start_read count after second =
          let behind = both_read (IsGivenOwner form.0) (given_owner_text form.0) (λ owned. IsGivenLength form.1) (λ owned. length_text form.1) rest middle after owned count first second in
          let whole = both_read (IsForm wide) form_mark IsGivenStart given_start_text bytes rest after form (owned, count) form_read behind in
          let forms : form ≡ (has_times owned.1, is_long count) = (λ i. (sym first.0.1.1 i, sym second.0.1 i)) in (
            (first.0.0, (times_allowed wide form.0 owned.1 known.0 first.0.1, length_allowed wide form.1 count known.1 second.0)),
            whole.1 ∙ ap (λ (f : Bool × Bool). (form_mark f ++ given_start_text f (owned, count)) ++ after) forms,
          )

-- the bytes of a file follow its start
pub start_parts : (file : Owner × (Times × List ℕ)) (r : List ℕ)
    → file_text file ++ r ≡ file_start_text (file.0, (file.1.0, length file.1.1)) ++ (file.1.1 ++ r)
start_parts file r =
    let times = file.1.0 in
    let bytes = file.1.1 in
    let owned = owned_text file.0 times in
    let count = length_text (is_long (length bytes)) (length bytes) in
    ap (λ (l : List ℕ). letter_for (has_times times) (file_letter (is_long (length bytes))) ∷ l)
    (append_assoc owned (count ++ bytes) r ∙ ap (λ (l : List ℕ). owned ++ l) (append_assoc count bytes r)
    ∙ sym (append_assoc owned count (bytes ++ r)))

pub file_one : (wide : Bool) (limits : TreeLimits) → IsOne (IsFile wide limits) file_text
file_one wide limits x y r s x-fits y-fits e =
    let starts = start_one wide (x.0, (x.1.0, length x.1.1)) (y.0, (y.1.0, length y.1.1)) (x.1.1 ++ r) (y.1.1 ++ s)
    x-fits.0 y-fits.0 (sym (start_parts x r) ∙ e ∙ start_parts y s) in
    let bytes = counted_front x.1.1 y.1.1 r s (ap (λ (v : Owner × (Times × ℕ)). v.1.1) starts.0) starts.1 in
    ((λ i. ((starts.0 i).0, ((starts.0 i).1.0, bytes.0 i))), bytes.1)

-- ---- kinds

-- which of the four kinds begins with a letter
class_of : ℕ → ℕ
class_of letter =
    if is_file_letter letter then 1 else if letter == 72 then 2 else if letter == 76 then 3 else 0

class : Kind → ℕ
class (Dir owner) = 0
class (First owner bytes) = 1
class (Further number) = 2
class (Link target) = 3

directory_class : (timed : Bool) → class_of (letter_for timed 68) ≡ 0
unfolding class_of
directory_class false = refl
directory_class true = refl

file_class : (timed long : Bool) → class_of (letter_for timed (file_letter long)) ≡ 1
unfolding class_of
file_class false false = refl
file_class false true = refl
file_class true false = refl
file_class true true = refl

class_is : (x : Kind × Times) (r : List ℕ) → class_of (get_or (timed_text x ++ r) 0 0) ≡ class x.0
unfolding class class_of
class_is (Dir owner, times) r = directory_class (has_times times)
class_is (First owner bytes, times) r = file_class (has_times times) (is_long (length bytes))
class_is (Further number, times) r = refl
class_is (Link target, times) r = refl

same_class : (x y : Kind × Times) (r s : List ℕ) → timed_text x ++ r ≡ timed_text y ++ s → class x.0 ≡ class y.0
same_class x y r s e = sym (class_is x r) ∙ ap (λ (t : List ℕ). class_of (get_or t 0 0)) e ∙ class_is y s

pub kind_one : (wide : Bool) (limits : TreeLimits) (rows : List Row) → IsOne (IsTimedKind wide limits rows) timed_text
unfolding class
kind_one wide limits rows (Dir x, t) (Dir y, u) r s x-fits y-fits e =
    let same = directory_one wide (x, t) (y, u) r s (x-fits.0, x-fits.1) (y-fits.0, y-fits.1) e in
    ((λ i. (Dir (same.0 i).0, (same.0 i).1)), same.1)
kind_one wide limits rows (First x b, t) (First y c, u) r s x-fits y-fits e =
    let same = file_one wide limits (x, (t, b)) (y, (u, c)) r s
    ((x-fits.0.0, (x-fits.1.0, x-fits.1.1)), (x-fits.0.1, x-fits.0.2)) ((y-fits.0.0, (y-fits.1.0, y-fits.1.1)), (y-fits.0.1, y-fits.0.2)) e in
    ((λ i. (First (same.0 i).0 (same.0 i).1.1, (same.0 i).1.0)), same.1)
kind_one wide limits rows (Further x, t) (Further y, u) r s x-fits y-fits e =
    let same = number_front x y r s x-fits.0.0 y-fits.0.0 (ap (drop 1) e) in
    let times = x-fits.1 ∙ sym y-fits.1 in
    ((λ i. (Further (same.0 i), times i)), same.1)
kind_one wide limits rows (Link x, t) (Link y, u) r s x-fits y-fits e =
    let same = string_front x y r s (target_length x x-fits.0) (target_length y y-fits.0) (ap (drop 1) e) in
    let times = x-fits.1 ∙ sym y-fits.1 in
    ((λ i. (Link (same.0 i), times i)), same.1)
kind_one wide limits rows (x, t) (y, u) r s x-fits y-fits e = absurd (omega (arith, same_class (x, t) (y, u) r s e))

pub kind_absent : (wide : Bool) (limits : TreeLimits) (rows : List Row) (bytes : List ℕ) → bytes ≡ []
    → ReadsNone (IsTimedKind wide limits rows) timed_text bytes
kind_absent wide limits rows bytes nothing (Dir x, t) r fits e = absurd (omega (arith, ap length (sym nothing ∙ e)))
kind_absent wide limits rows bytes nothing (First x b, t) r fits e = absurd (omega (arith, ap length (sym nothing ∙ e)))
kind_absent wide limits rows bytes nothing (Further n, t) r fits e = absurd (omega (arith, ap length (sym nothing ∙ e)))
kind_absent wide limits rows bytes nothing (Link b, t) r fits e = absurd (omega (arith, ap length (sym nothing ∙ e)))

-- of bytes that begin with this letter a kind of another letter cannot be read
module _ (wide : Bool) (limits : TreeLimits) (rows : List Row) (bytes rest : List ℕ) (first : ℕ)
    (is : bytes ≡ first ∷ rest) where
  class_here : (x : Kind × Times) (r : List ℕ) → bytes ≡ timed_text x ++ r → class x.0 ≡ class_of first
  class_here x r e = sym (class_is x r) ∙ ap (λ (t : List ℕ). class_of (get_or t 0 0)) (sym e ∙ is)

  behind : (x : Kind × Times) (r : List ℕ) → bytes ≡ timed_text x ++ r → rest ≡ drop 1 (timed_text x ++ r)
  behind x r e = ap (drop 1) (sym is ∙ e)

  pub further_none : first ≡ 72 → ReadsNone (IsFirstAmong rows) uint32 rest
      → ReadsNone (IsTimedKind wide limits rows) timed_text bytes
  unfolding class class_of
  further_none here none (Further number, t) r fits e = none number r fits.0 (behind (Further number, t) r e)
  further_none here none (Dir owner, t) r fits e = omega (arith, class_here (Dir owner, t) r e ∙ ap class_of here)
  further_none here none (First owner b, t) r fits e = omega (arith, class_here (First owner b, t) r e ∙ ap class_of here)
  further_none here none (Link target, t) r fits e = omega (arith, class_here (Link target, t) r e ∙ ap class_of here)

  pub link_none : first ≡ 76 → ReadsNone IsTarget string rest
      → ReadsNone (IsTimedKind wide limits rows) timed_text bytes
  unfolding class class_of
  link_none here none (Link target, t) r fits e = none target r fits.0 (behind (Link target, t) r e)
  link_none here none (Dir owner, t) r fits e = omega (arith, class_here (Dir owner, t) r e ∙ ap class_of here)
  link_none here none (First owner b, t) r fits e = omega (arith, class_here (First owner b, t) r e ∙ ap class_of here)
  link_none here none (Further number, t) r fits e = omega (arith, class_here (Further number, t) r e ∙ ap class_of here)

  pub other_none : is_file_letter first ≡ false → (first ≡ 72 → ⊥) → (first ≡ 76 → ⊥)
      → ReadsNone (IsOwnedIn wide) directory_text bytes → ReadsNone (IsTimedKind wide limits rows) timed_text bytes
  other_none no_file no_further no_link none (Dir owner, t) r fits e = none (owner, t) r (fits.0, fits.1) e
  other_none no_file no_further no_link none (First owner b, t) r fits e =
      file_letters (has_times t) (is_long (length b)) (ap (λ (l : List ℕ). get_or l 0 0) (sym is ∙ e))
    where
      file_letters : (timed long : Bool) → first ≡ letter_for timed (file_letter long) → ⊥
      file_letters false false e = false≢true (sym no_file ∙ ap is_file_letter e)
      file_letters false true e = false≢true (sym no_file ∙ ap is_file_letter e)
      file_letters true false e = false≢true (sym no_file ∙ ap is_file_letter e)
      file_letters true true e = false≢true (sym no_file ∙ ap is_file_letter e)
  other_none no_file no_further no_link none (Further number, t) r fits e =
      no_further (ap (λ (l : List ℕ). get_or l 0 0) (sym is ∙ e))
  other_none no_file no_further no_link none (Link target, t) r fits e =
      no_link (ap (λ (l : List ℕ). get_or l 0 0) (sym is ∙ e))
