-- Heads and their texts: the front, the limits, and what is said of the root.
use Rattle.sftp_treefile.proofs.Imports.{◌≡◌, ◌<◌, ◌^◌, ℕ, Bool, true, false, List, ◌++◌, get_or, drop, refl, sym, ap}
use Rattle.sftp_treefile.proofs.Imports.{◌∙◌, subst, arith, false≢true, uint32, uint64, string, Owner, Front, Head}
use Rattle.sftp_treefile.proofs.Imports.{TreeLimits, Opening, Times, usual_limits, highest_limits, least_limits}
use Rattle.sftp_treefile.proofs.Imports.{most_limits, all_bytes, AreLimits, AreRaised, are_own, tree_opening, is_wide}
use Rattle.sftp_treefile.proofs.Imports.{limits_text, owner_text, IsPlaceText, IsOwner, Reads, ReadsNone, IsNumber}
use Rattle.sftp_treefile.proofs.Imports.{IsCount, IsFront, front_bytes, AreSet, IsRoot, root_text, IsOwnedIn}
use Rattle.sftp_treefile.proofs.Imports.{head_bytes, IsHead, ◌+◌, ◌≤◌, [], ◌∷◌, length, append_assoc, inl, inr}
use Rattle.sftp_treefile.proofs.Imports.{flat_map, append-nil, length-append, TreeError, Kind, Row, entry_text}
use Rattle.sftp_treefile.proofs.Imports.{timed_text, IsKind, IsTimedKind, IsEntry, AreEntries, OutOfMemoryOr, Follows}
use Rattle.sftp_treefile.proofs.Imports.{AreRead, AreNone, root_owner_text, no_times, rows_in, with_room}
use Rattle.sftp_treefile.proofs.Imports.{contents_length, content_length, IsNext, plain_owner_text}
use Rattle.sftp_treefile.specs.TreeFile.{IsBetween}
use Rattle.sftp_treefile.specs.declared.limits.Opening.TheVariants.{Usual, Raised, Wide}
use Rattle.sftp_treefile.specs.declared.files.Kind.TheVariants.{Dir, First, Further, Link}
use Rattle.sftp_treefile.proofs.Texts.{number_front, long_front, owner_front, path_front}
use Rattle.sftp_treefile.proofs.Texts.{IsOne, Both, both_text, no_first, no_second, both_one, both_read}
use Rattle.sftp_treefile.proofs.Texts.{none_as, one_as}
use Rattle.sftp_treefile.proofs.Texts.Entries.{AreNumbers, numbers_text, numbers_one, directory_one, kind_one}
use Rattle.std.proofs.lemmas.List.Concat.{flat_map-append}

-- ---- the front: the opening, the home, the uid and the gid

abbrev pub AnyOpening : Opening → Type 0
AnyOpening opening = Unit {0}

opening_one : IsOne AnyOpening tree_opening
opening_one Usual Usual r s x-fits y-fits e = (refl, ap (drop 8) e)
opening_one Raised Raised r s x-fits y-fits e = (refl, ap (drop 8) e)
opening_one Wide Wide r s x-fits y-fits e = (refl, ap (drop 8) e)
opening_one x y r s x-fits y-fits e = absurd (omega (arith, ap (λ (l : List ℕ). get_or l 7 0) e))

abbrev pub IsHomed : List ℕ × (ℕ × ℕ) → Type 0
IsHomed = Both IsPlaceText (λ (home : List ℕ). AreNumbers)

abbrev pub homed_text : List ℕ × (ℕ × ℕ) → List ℕ
homed_text = both_text string (λ (home : List ℕ). numbers_text)

abbrev pub IsOpened : Opening × (List ℕ × (ℕ × ℕ)) → Type 0
IsOpened = Both AnyOpening (λ (opening : Opening). IsHomed)

abbrev pub opened_text : Opening × (List ℕ × (ℕ × ℕ)) → List ℕ
opened_text = both_text tree_opening (λ (opening : Opening). homed_text)

abbrev pub front_view : Front → Opening × (List ℕ × (ℕ × ℕ))
front_view front = (front.opening, (front.home, (front.uid, front.gid)))

front_fits : (front : Front) → IsFront front → IsOpened (front_view front)
front_fits front fits = (tt, (fits.home, (fits.uid, fits.gid)))

none_front : (bytes : List ℕ) → ReadsNone IsOpened opened_text bytes → ReadsNone IsFront front_bytes bytes
none_front bytes none =
    none_as IsFront front_bytes IsOpened opened_text front_view front_fits (λ front. refl) bytes none

pub opening_none : (bytes : List ℕ)
    → ((opening : Opening) (rest : List ℕ) → bytes ≡ tree_opening opening ++ rest → ⊥) → ReadsNone IsFront front_bytes bytes
opening_none bytes none = none_front bytes
    (no_first AnyOpening tree_opening (λ own. IsHomed) (λ own. homed_text) bytes (λ own rest fits e. none own rest e))

module _ (bytes opened : List ℕ) (own : Opening) (opening : bytes ≡ tree_opening own ++ opened) where
  none_opened : ReadsNone IsHomed homed_text opened → ReadsNone IsFront front_bytes bytes
  none_opened none = none_front bytes
      (no_second AnyOpening tree_opening (λ own. IsHomed) (λ own. homed_text) opening_one bytes opened own (tt, opening) none)

  pub home_none : ReadsNone IsPlaceText string opened → ReadsNone IsFront front_bytes bytes
  home_none none =
      none_opened (no_first IsPlaceText string (λ home. AreNumbers) (λ home. numbers_text) opened none)

  module _ (homed home : List ℕ) (homing : Reads IsPlaceText string opened home homed) where
    none_homed : ReadsNone AreNumbers numbers_text homed → ReadsNone IsFront front_bytes bytes
    none_homed none = none_opened
        (no_second IsPlaceText string (λ home. AreNumbers) (λ home. numbers_text) path_front opened homed home homing none)

    pub uid_none : ReadsNone IsNumber uint32 homed → ReadsNone IsFront front_bytes bytes
    uid_none none = none_homed (no_first IsNumber uint32 (λ uid. IsNumber) (λ uid. uint32) homed none)

    pub gid_none : (owned : List ℕ) (uid : ℕ) → Reads IsNumber uint32 homed uid owned
        → ReadsNone IsNumber uint32 owned → ReadsNone IsFront front_bytes bytes
    gid_none owned uid owning none = none_homed
        (no_second IsNumber uint32 (λ uid. IsNumber) (λ uid. uint32) number_front homed owned uid owning none)

    pub front_read : (owned rest : List ℕ) (uid gid : ℕ) → Reads IsNumber uint32 homed uid owned
        → Reads IsNumber uint32 owned gid rest
        → Reads IsFront front_bytes bytes (record { opening = own; home = home; uid = uid; gid = gid }) rest
    front_read owned rest uid gid first second =
        let numbers = both_read IsNumber uint32 (λ uid. IsNumber) (λ uid. uint32) homed owned rest uid gid first second in
        let behind = both_read IsPlaceText string (λ home. AreNumbers) (λ home. numbers_text) opened homed rest home (uid, gid) homing numbers in
        let whole = both_read AnyOpening tree_opening (λ own. IsHomed) (λ own. homed_text) bytes opened rest own (home, (uid, gid)) (tt, opening) behind in
        (record { home = homing.0; uid = first.0; gid = second.0 }, whole.1)

homed_one : IsOne IsHomed homed_text
homed_one =
    both_one IsPlaceText string (λ home. AreNumbers) (λ home. numbers_text) path_front (λ home fits. numbers_one)

pub front_one : IsOne IsFront front_bytes
front_one = one_as IsFront front_bytes IsOpened opened_text front_view front_fits (λ front. refl)
    (λ x y e. (λ i. record { opening = (e i).0; home = (e i).1.0; uid = (e i).1.1.0; gid = (e i).1.1.1 }))
    (both_one AnyOpening tree_opening (λ own. IsHomed) (λ own. homed_text) opening_one (λ own fits. homed_one))

-- ---- the limits

between_one : (lowest highest : ℕ) → highest < 2 ^ 32 → IsOne (IsBetween lowest highest) uint32
between_one lowest highest bound x y r s x-fits y-fits e =
    number_front x y r s (omega (arith, x-fits.1, bound)) (omega (arith, y-fits.1, bound)) e

long_between_one : (lowest highest : ℕ) → highest < 2 ^ 64 → IsOne (IsBetween lowest highest) uint64
long_between_one lowest highest bound x y r s x-fits y-fits e =
    long_front x y r s (omega (arith, x-fits.1, bound)) (omega (arith, y-fits.1, bound)) e

-- ---- those after the second opening

abbrev pub IsEntries : ℕ → Type 0
IsEntries = IsBetween usual_limits.entries highest_limits.entries

abbrev pub IsFileSize : ℕ → Type 0
IsFileSize = IsBetween usual_limits.file_bytes highest_limits.file_bytes

abbrev pub IsReadSize : ℕ → Type 0
IsReadSize = IsBetween usual_limits.read_bytes highest_limits.read_bytes

abbrev pub IsHandles : ℕ → Type 0
IsHandles = IsBetween usual_limits.open_handles highest_limits.open_handles

entries_one : IsOne IsEntries uint32
entries_one = between_one usual_limits.entries highest_limits.entries (omega arith)

file_size_one : IsOne IsFileSize uint32
file_size_one = between_one usual_limits.file_bytes highest_limits.file_bytes (omega arith)

read_size_one : IsOne IsReadSize uint32
read_size_one = between_one usual_limits.read_bytes highest_limits.read_bytes (omega arith)

handles_one : IsOne IsHandles uint32
handles_one = between_one usual_limits.open_handles highest_limits.open_handles (omega arith)

abbrev pub AreTwo : ℕ × ℕ → Type 0
AreTwo = Both IsReadSize (λ (read_bytes : ℕ). IsHandles)

abbrev pub AreThree : ℕ × (ℕ × ℕ) → Type 0
AreThree = Both IsFileSize (λ (file_bytes : ℕ). AreTwo)

abbrev pub three_text : ℕ × (ℕ × ℕ) → List ℕ
three_text = both_text uint32 (λ (file_bytes : ℕ). numbers_text)

abbrev pub AreFour : ℕ × (ℕ × (ℕ × ℕ)) → Type 0
AreFour = Both IsEntries (λ (entries : ℕ). AreThree)

abbrev pub four_text : ℕ × (ℕ × (ℕ × ℕ)) → List ℕ
four_text = both_text uint32 (λ (entries : ℕ). three_text)

abbrev pub raised_view : TreeLimits → ℕ × (ℕ × (ℕ × ℕ))
raised_view limits = (limits.entries, (limits.file_bytes, (limits.read_bytes, limits.open_handles)))

raised_fit : (limits : TreeLimits) → AreRaised limits → AreFour (raised_view limits)
raised_fit limits fits = (fits.entries, (fits.file_bytes, (fits.read_bytes, fits.open_handles)))

none_four : (bytes : List ℕ) → ReadsNone AreFour four_text bytes → ReadsNone AreRaised (limits_text Raised) bytes
none_four bytes none =
    none_as AreRaised (limits_text Raised) AreFour four_text raised_view raised_fit (λ limits. refl) bytes none

pub entries_none : (bytes : List ℕ) → ReadsNone IsEntries uint32 bytes → ReadsNone AreRaised (limits_text Raised) bytes
entries_none bytes none =
    none_four bytes (no_first IsEntries uint32 (λ entries. AreThree) (λ entries. three_text) bytes none)

module _ (bytes r1 : List ℕ) (entries : ℕ) (first : Reads IsEntries uint32 bytes entries r1) where
  none_three : ReadsNone AreThree three_text r1 → ReadsNone AreRaised (limits_text Raised) bytes
  none_three none = none_four bytes
      (no_second IsEntries uint32 (λ entries. AreThree) (λ entries. three_text) entries_one bytes r1 entries first none)

  pub file_bytes_none : ReadsNone IsFileSize uint32 r1 → ReadsNone AreRaised (limits_text Raised) bytes
  file_bytes_none none =
      none_three (no_first IsFileSize uint32 (λ file_bytes. AreTwo) (λ file_bytes. numbers_text) r1 none)

  module _ (r2 : List ℕ) (file_bytes : ℕ) (second : Reads IsFileSize uint32 r1 file_bytes r2) where
    none_two : ReadsNone AreTwo numbers_text r2 → ReadsNone AreRaised (limits_text Raised) bytes
    none_two none = none_three
        (no_second IsFileSize uint32 (λ file_bytes. AreTwo) (λ file_bytes. numbers_text) file_size_one r1 r2 file_bytes second none)

    pub read_bytes_none : ReadsNone IsReadSize uint32 r2 → ReadsNone AreRaised (limits_text Raised) bytes
    read_bytes_none none =
        none_two (no_first IsReadSize uint32 (λ read_bytes. IsHandles) (λ read_bytes. uint32) r2 none)

    module _ (r3 : List ℕ) (read_bytes : ℕ) (third : Reads IsReadSize uint32 r2 read_bytes r3) where
      pub open_handles_none : ReadsNone IsHandles uint32 r3 → ReadsNone AreRaised (limits_text Raised) bytes
      open_handles_none none = none_two
          (no_second IsReadSize uint32 (λ read_bytes. IsHandles) (λ read_bytes. uint32) read_size_one r2 r3 read_bytes third none)

      pub limits_read : (rest : List ℕ) (open_handles : ℕ) → Reads IsHandles uint32 r3 open_handles rest
          → Reads AreRaised (limits_text Raised) bytes (record { entries = entries; file_bytes = file_bytes; read_bytes = read_bytes; open_handles = open_handles; total_bytes = all_bytes }) rest
      limits_read rest open_handles fourth =
          let two = both_read IsReadSize uint32 (λ read_bytes. IsHandles) (λ read_bytes. uint32) r2 r3 rest read_bytes open_handles third fourth in
          let three = both_read IsFileSize uint32 (λ file_bytes. AreTwo) (λ file_bytes. numbers_text) r1 r2 rest file_bytes (read_bytes, open_handles) second two in
          let four = both_read IsEntries uint32 (λ entries. AreThree) (λ entries. three_text) bytes r1 rest entries (file_bytes, (read_bytes, open_handles)) first three in
          (record { entries = first.0; file_bytes = second.0; read_bytes = third.0; open_handles = fourth.0; total_bytes = (omega arith, omega arith) }, four.1)

two_one : IsOne AreTwo numbers_text
two_one = both_one IsReadSize uint32 (λ read_bytes. IsHandles) (λ read_bytes. uint32) read_size_one (λ read_bytes fits. handles_one)

three_one : IsOne AreThree three_text
three_one = both_one IsFileSize uint32 (λ file_bytes. AreTwo) (λ file_bytes. numbers_text) file_size_one (λ file_bytes fits. two_one)

four_one : IsOne AreFour four_text
four_one = both_one IsEntries uint32 (λ entries. AreThree) (λ entries. three_text) entries_one (λ entries fits. three_one)

-- all contents have no limit of their own there
raised_one : IsOne AreRaised (limits_text Raised)
raised_one x y r s x-fits y-fits e =
    let four = four_one (raised_view x) (raised_view y) r s (raised_fit x x-fits) (raised_fit y y-fits) e in
    let total : x.total_bytes ≡ y.total_bytes =
    omega (arith, x-fits.total_bytes.0, x-fits.total_bytes.1, y-fits.total_bytes.0, y-fits.total_bytes.1) in
    ((λ i. record { entries = (four.0 i).0; file_bytes = (four.0 i).1.0; read_bytes = (four.0 i).1.1.0; open_handles = (four.0 i).1.1.1; total_bytes = total i }), four.1)

-- where there are no limits, and where they are all the usual ones
pub no_limits : (bytes : List ℕ) → ReadsNone AreRaised (limits_text Raised) bytes
    → ReadsNone (AreSet Raised) (limits_text Raised) bytes
no_limits bytes none limits rest fits e = none limits rest fits.0 e

pub usual_none : (bytes rest : List ℕ) (limits : TreeLimits) → Reads AreRaised (limits_text Raised) bytes limits rest
    → are_own limits ≡ false → ReadsNone (AreSet Raised) (limits_text Raised) bytes
usual_none bytes rest limits read none other r fits e =
    let same = raised_one limits other rest r read.0 fits.0 (sym read.1 ∙ e) in
    false≢true (sym none ∙ ap are_own same.0 ∙ fits.1)

-- ---- those after the third

abbrev pub AreEnds : ℕ × ℕ → Type 0
AreEnds = Both (IsBetween least_limits.open_handles most_limits.open_handles)
    (λ (n : ℕ). IsBetween least_limits.total_bytes most_limits.total_bytes)

abbrev pub ends_text : ℕ × ℕ → List ℕ
ends_text = both_text uint32 (λ (n : ℕ). uint64)

abbrev pub AreLast : ℕ × (ℕ × ℕ) → Type 0
AreLast = Both (IsBetween least_limits.read_bytes most_limits.read_bytes) (λ (n : ℕ). AreEnds)

abbrev pub last_text : ℕ × (ℕ × ℕ) → List ℕ
last_text = both_text uint32 (λ (n : ℕ). ends_text)

abbrev pub AreLater : ℕ × (ℕ × (ℕ × ℕ)) → Type 0
AreLater = Both (IsBetween least_limits.file_bytes most_limits.file_bytes) (λ (n : ℕ). AreLast)

abbrev pub later_text : ℕ × (ℕ × (ℕ × ℕ)) → List ℕ
later_text = both_text uint64 (λ (n : ℕ). last_text)

abbrev pub AreFive : ℕ × (ℕ × (ℕ × (ℕ × ℕ))) → Type 0
AreFive = Both (IsBetween least_limits.entries most_limits.entries) (λ (n : ℕ). AreLater)

abbrev pub five_text : ℕ × (ℕ × (ℕ × (ℕ × ℕ))) → List ℕ
five_text = both_text uint32 (λ (n : ℕ). later_text)

abbrev pub wide_view : TreeLimits → ℕ × (ℕ × (ℕ × (ℕ × ℕ)))
wide_view limits =
    (limits.entries, (limits.file_bytes, (limits.read_bytes, (limits.open_handles, limits.total_bytes))))

wide_fit : (limits : TreeLimits) → AreLimits limits → AreFive (wide_view limits)
wide_fit limits fits =
    (fits.entries, (fits.file_bytes, (fits.read_bytes, (fits.open_handles, fits.total_bytes))))

most_entries_one : IsOne (IsBetween least_limits.entries most_limits.entries) uint32
most_entries_one = between_one least_limits.entries most_limits.entries (omega arith)

most_file_one : IsOne (IsBetween least_limits.file_bytes most_limits.file_bytes) uint64
most_file_one = long_between_one least_limits.file_bytes most_limits.file_bytes (omega arith)

most_read_one : IsOne (IsBetween least_limits.read_bytes most_limits.read_bytes) uint32
most_read_one = between_one least_limits.read_bytes most_limits.read_bytes (omega arith)

most_handles_one : IsOne (IsBetween least_limits.open_handles most_limits.open_handles) uint32
most_handles_one = between_one least_limits.open_handles most_limits.open_handles (omega arith)

most_total_one : IsOne (IsBetween least_limits.total_bytes most_limits.total_bytes) uint64
most_total_one = long_between_one least_limits.total_bytes most_limits.total_bytes (omega arith)

ends_one : IsOne AreEnds ends_text
ends_one = both_one (IsBetween least_limits.open_handles most_limits.open_handles) uint32
    (λ n. IsBetween least_limits.total_bytes most_limits.total_bytes) (λ n. uint64) most_handles_one (λ n fits. most_total_one)

last_one : IsOne AreLast last_text
last_one = both_one (IsBetween least_limits.read_bytes most_limits.read_bytes) uint32 (λ n. AreEnds) (λ n. ends_text)
    most_read_one (λ n fits. ends_one)

later_one : IsOne AreLater later_text
later_one = both_one (IsBetween least_limits.file_bytes most_limits.file_bytes) uint64 (λ n. AreLast) (λ n. last_text)
    most_file_one (λ n fits. last_one)

wide_one : IsOne AreLimits (limits_text Wide)
wide_one = one_as AreLimits (limits_text Wide) AreFive five_text wide_view wide_fit (λ limits. refl)
    (λ x y e. (λ i. record { entries = (e i).0; file_bytes = (e i).1.0; read_bytes = (e i).1.1.0; open_handles = (e i).1.1.1.0; total_bytes = (e i).1.1.1.1 }))
    (both_one (IsBetween least_limits.entries most_limits.entries) uint32 (λ n. AreLater) (λ n. later_text) most_entries_one (λ n fits. later_one))

none_five : (bytes : List ℕ) → ReadsNone AreFive five_text bytes → ReadsNone AreLimits (limits_text Wide) bytes
none_five bytes none =
    none_as AreLimits (limits_text Wide) AreFive five_text wide_view wide_fit (λ limits. refl) bytes none

pub wide_entries_none : (bytes : List ℕ) → ReadsNone (IsBetween least_limits.entries most_limits.entries) uint32 bytes
    → ReadsNone AreLimits (limits_text Wide) bytes
wide_entries_none bytes none = none_five bytes
    (no_first (IsBetween least_limits.entries most_limits.entries) uint32 (λ n. AreLater) (λ n. later_text) bytes none)

module _ (bytes r1 : List ℕ) (entries : ℕ)
    (first : Reads (IsBetween least_limits.entries most_limits.entries) uint32 bytes entries r1) where
  none_later : ReadsNone AreLater later_text r1 → ReadsNone AreLimits (limits_text Wide) bytes
  none_later none = none_five bytes
      (no_second (IsBetween least_limits.entries most_limits.entries) uint32 (λ n. AreLater) (λ n. later_text) most_entries_one bytes r1 entries first none)

  pub wide_file_none : ReadsNone (IsBetween least_limits.file_bytes most_limits.file_bytes) uint64 r1
      → ReadsNone AreLimits (limits_text Wide) bytes
  wide_file_none none = none_later
      (no_first (IsBetween least_limits.file_bytes most_limits.file_bytes) uint64 (λ n. AreLast) (λ n. last_text) r1 none)

  module _ (r2 : List ℕ) (file_bytes : ℕ)
      (second : Reads (IsBetween least_limits.file_bytes most_limits.file_bytes) uint64 r1 file_bytes r2) where
    none_last : ReadsNone AreLast last_text r2 → ReadsNone AreLimits (limits_text Wide) bytes
    none_last none = none_later
        (no_second (IsBetween least_limits.file_bytes most_limits.file_bytes) uint64 (λ n. AreLast) (λ n. last_text) most_file_one r1 r2 file_bytes second none)

    pub wide_read_none : ReadsNone (IsBetween least_limits.read_bytes most_limits.read_bytes) uint32 r2
        → ReadsNone AreLimits (limits_text Wide) bytes
    wide_read_none none = none_last
        (no_first (IsBetween least_limits.read_bytes most_limits.read_bytes) uint32 (λ n. AreEnds) (λ n. ends_text) r2 none)

    module _ (r3 : List ℕ) (read_bytes : ℕ)
        (third : Reads (IsBetween least_limits.read_bytes most_limits.read_bytes) uint32 r2 read_bytes r3) where
      none_ends : ReadsNone AreEnds ends_text r3 → ReadsNone AreLimits (limits_text Wide) bytes
      none_ends none = none_last
          (no_second (IsBetween least_limits.read_bytes most_limits.read_bytes) uint32 (λ n. AreEnds) (λ n. ends_text) most_read_one r2 r3 read_bytes third none)

      pub wide_handles_none : ReadsNone (IsBetween least_limits.open_handles most_limits.open_handles) uint32 r3
          → ReadsNone AreLimits (limits_text Wide) bytes
      wide_handles_none none = none_ends
          (no_first (IsBetween least_limits.open_handles most_limits.open_handles) uint32 (λ n. IsBetween least_limits.total_bytes most_limits.total_bytes) (λ n. uint64) r3 none)

      module _ (r4 : List ℕ) (open_handles : ℕ)
          (fourth : Reads (IsBetween least_limits.open_handles most_limits.open_handles) uint32 r3 open_handles r4) where
        pub wide_total_none : ReadsNone (IsBetween least_limits.total_bytes most_limits.total_bytes) uint64 r4
            → ReadsNone AreLimits (limits_text Wide) bytes
        wide_total_none none = none_ends
            (no_second (IsBetween least_limits.open_handles most_limits.open_handles) uint32 (λ n. IsBetween least_limits.total_bytes most_limits.total_bytes) (λ n. uint64) most_handles_one r3 r4 open_handles fourth none)

        pub wide_limits_read : (rest : List ℕ) (total_bytes : ℕ)
            → Reads (IsBetween least_limits.total_bytes most_limits.total_bytes) uint64 r4 total_bytes rest
            → Reads AreLimits (limits_text Wide) bytes (record { entries = entries; file_bytes = file_bytes; read_bytes = read_bytes; open_handles = open_handles; total_bytes = total_bytes }) rest
        wide_limits_read rest total_bytes fifth =
            let two = both_read (IsBetween least_limits.open_handles most_limits.open_handles) uint32 (λ n. IsBetween least_limits.total_bytes most_limits.total_bytes) (λ n. uint64) r3 r4 rest open_handles total_bytes fourth fifth in
            let three = both_read (IsBetween least_limits.read_bytes most_limits.read_bytes) uint32 (λ n. AreEnds) (λ n. ends_text) r2 r3 rest read_bytes (open_handles, total_bytes) third two in
            let four = both_read (IsBetween least_limits.file_bytes most_limits.file_bytes) uint64 (λ n. AreLast) (λ n. last_text) r1 r2 rest file_bytes (read_bytes, (open_handles, total_bytes)) second three in
            let five = both_read (IsBetween least_limits.entries most_limits.entries) uint32 (λ n. AreLater) (λ n. later_text) bytes r1 rest entries (file_bytes, (read_bytes, (open_handles, total_bytes))) first four in
            (record { entries = first.0; file_bytes = second.0; read_bytes = third.0; open_handles = fourth.0; total_bytes = fifth.0 }, five.1)

-- ---- those after any opening

set_one : (opening : Opening) → IsOne (AreSet opening) (limits_text opening)
set_one Usual x y r s x-fits y-fits e = (x-fits ∙ sym y-fits, e)
set_one Raised x y r s x-fits y-fits e = raised_one x y r s x-fits.0 y-fits.0 e
set_one Wide x y r s x-fits y-fits e = wide_one x y r s x-fits y-fits e

pub set_entries : (opening : Opening) (limits : TreeLimits) → AreSet opening limits → limits.entries + 2 < 2 ^ 32
set_entries Usual limits set = omega (arith, ap (λ (l : TreeLimits). l.entries) set)
set_entries Raised limits set = omega (arith, set.0.entries.1)
set_entries Wide limits set = omega (arith, set.entries.1)

pub usual_read : (bytes : List ℕ) → Reads (AreSet Usual) (limits_text Usual) bytes usual_limits bytes
usual_read bytes = (refl, refl)

-- ---- the root

pub plain_owner_read : (bytes rest : List ℕ) (owner : Owner) → Reads IsOwner owner_text bytes owner rest
    → Reads (IsOwnedIn false) plain_owner_text bytes (owner, no_times) rest
plain_owner_read bytes rest owner read = ((read.0, refl), read.1)

pub plain_owner_none : (bytes : List ℕ) → ReadsNone IsOwner owner_text bytes
    → ReadsNone (IsOwnedIn false) plain_owner_text bytes
plain_owner_none bytes none root rest fits e = none root.0 rest fits.0 e

plain_one : IsOne (IsOwnedIn false) plain_owner_text
plain_one x y r s x-fits y-fits e =
    let same = owner_front x.0 y.0 r s x-fits.0 y-fits.0 e in
    let times = x-fits.1 ∙ sym y-fits.1 in
    ((λ i. (same.0 i, times i)), same.1)

root_owner_one : (opening : Opening) → IsOne (IsOwnedIn (is_wide opening)) (root_owner_text opening)
root_owner_one Usual x y r s x-fits y-fits e = plain_one x y r s x-fits y-fits e
root_owner_one Raised x y r s x-fits y-fits e = plain_one x y r s x-fits y-fits e
root_owner_one Wide x y r s x-fits y-fits e = directory_one true x y r s x-fits y-fits e

count_one : (limits : TreeLimits) → limits.entries < 2 ^ 32 → IsOne (IsCount limits) uint32
count_one limits bound x y r s x-fits y-fits e =
    number_front x y r s (omega (arith, x-fits, bound)) (omega (arith, y-fits, bound)) e

module _ (opening : Opening) (limits : TreeLimits) where
  pub count_none : (bytes : List ℕ) → ReadsNone (IsCount limits) uint32 bytes
      → ReadsNone (IsRoot opening limits) (root_text opening) bytes
  count_none bytes none = no_first (IsCount limits) uint32 (λ count. IsOwnedIn (is_wide opening))
      (λ count. root_owner_text opening) bytes none

  pub root_owner_none : limits.entries < 2 ^ 32 → (bytes r : List ℕ) (count : ℕ)
      → Reads (IsCount limits) uint32 bytes count r
      → ReadsNone (IsOwnedIn (is_wide opening)) (root_owner_text opening) r
      → ReadsNone (IsRoot opening limits) (root_text opening) bytes
  root_owner_none bound bytes r count read none = no_second (IsCount limits) uint32 (λ count. IsOwnedIn (is_wide opening))
      (λ count. root_owner_text opening) (count_one limits bound) bytes r count read none

  pub root_read : (bytes r rest : List ℕ) (count : ℕ) (root : Owner × Times)
      → Reads (IsCount limits) uint32 bytes count r
      → Reads (IsOwnedIn (is_wide opening)) (root_owner_text opening) r root rest
      → Reads (IsRoot opening limits) (root_text opening) bytes (count, root) rest
  root_read bytes r rest count root first second = both_read (IsCount limits) uint32 (λ count. IsOwnedIn (is_wide opening))
      (λ count. root_owner_text opening) bytes r rest count root first second

  root_one : limits.entries < 2 ^ 32 → IsOne (IsRoot opening limits) (root_text opening)
  root_one bound = both_one (IsCount limits) uint32 (λ count. IsOwnedIn (is_wide opening))
      (λ count. root_owner_text opening) (count_one limits bound) (λ count fits. root_owner_one opening)

-- ---- the head

abbrev pub Behind : Type 0
Behind = TreeLimits × (ℕ × (Owner × Times))

abbrev pub IsBehind : Front → Behind → Type 0
IsBehind front = Both (AreSet front.opening) (IsRoot front.opening)

abbrev pub behind_text : Front → Behind → List ℕ
behind_text front = both_text (limits_text front.opening) (λ (limits : TreeLimits). root_text front.opening)

abbrev pub front_of : Head → Front
front_of head = record { opening = head.opening; home = head.home; uid = head.uid; gid = head.gid }

abbrev pub head_view : Head → Front × Behind
head_view head = (front_of head, (head.limits, (head.count, (head.root, head.root_times))))

abbrev pub IsWhole : Front × Behind → Type 0
IsWhole = Both IsFront IsBehind

abbrev pub whole_text : Front × Behind → List ℕ
whole_text = both_text front_bytes behind_text

head_fits : (head : Head) → IsHead head → IsWhole (head_view head)
head_fits head fits =
    (record { home = fits.home; uid = fits.uid; gid = fits.gid }, (fits.limits, (fits.count, fits.root)))

none_head : (bytes : List ℕ) → ReadsNone IsWhole whole_text bytes → ReadsNone IsHead head_bytes bytes
none_head bytes none =
    none_as IsHead head_bytes IsWhole whole_text head_view head_fits (λ head. refl) bytes none

pub front_none : (bytes : List ℕ) → ReadsNone IsFront front_bytes bytes → ReadsNone IsHead head_bytes bytes
front_none bytes none = none_head bytes (no_first IsFront front_bytes IsBehind behind_text bytes none)

module _ (bytes r1 : List ℕ) (front : Front) (first : Reads IsFront front_bytes bytes front r1) where
  none_behind : ReadsNone (IsBehind front) (behind_text front) r1 → ReadsNone IsHead head_bytes bytes
  none_behind none =
      none_head bytes (no_second IsFront front_bytes IsBehind behind_text front_one bytes r1 front first none)

  pub limits_none : ReadsNone (AreSet front.opening) (limits_text front.opening) r1
      → ReadsNone IsHead head_bytes bytes
  limits_none none = none_behind
      (no_first (AreSet front.opening) (limits_text front.opening) (IsRoot front.opening) (λ limits. root_text front.opening) r1 none)

  module _ (r2 : List ℕ) (limits : TreeLimits)
      (second : Reads (AreSet front.opening) (limits_text front.opening) r1 limits r2) where
    pub root_none : ReadsNone (IsRoot front.opening limits) (root_text front.opening) r2
        → ReadsNone IsHead head_bytes bytes
    root_none none = none_behind
        (no_second (AreSet front.opening) (limits_text front.opening) (IsRoot front.opening) (λ limits. root_text front.opening) (set_one front.opening) r1 r2 limits second none)

    pub head_read : (rest : List ℕ) (count : ℕ) (root : Owner × Times)
        → Reads (IsRoot front.opening limits) (root_text front.opening) r2 (count, root) rest
        → Reads IsHead head_bytes bytes (record { opening = front.opening; limits = limits; home = front.home; uid = front.uid; gid = front.gid; count = count; root = root.0; root_times = root.1 }) rest
    head_read rest count root third =
        let behind = both_read (AreSet front.opening) (limits_text front.opening) (IsRoot front.opening) (λ limits. root_text front.opening) r1 r2 rest limits (count, root) second third in
        let whole = both_read IsFront front_bytes IsBehind behind_text bytes r1 rest front (limits, (count, root)) first behind in
        (record { limits = second.0; home = first.0.home; uid = first.0.uid; gid = first.0.gid; count = third.0.0; root = third.0.1 }, whole.1)

pub head_front : IsOne IsHead head_bytes
head_front = one_as IsHead head_bytes IsWhole whole_text head_view head_fits (λ head. refl)
    (λ x y e. (λ i. record { opening = (e i).0.opening; limits = (e i).1.0; home = (e i).0.home; uid = (e i).0.uid; gid = (e i).0.gid; count = (e i).1.1.0; root = (e i).1.1.1.0; root_times = (e i).1.1.1.1 }))
    (both_one IsFront front_bytes IsBehind behind_text front_one (λ front fits.
    both_one (AreSet front.opening) (limits_text front.opening) (IsRoot front.opening) (λ limits. root_text front.opening) (set_one front.opening)
    (λ limits set. root_one front.opening limits (omega (arith, set_entries front.opening limits set)))))

-- ==== Entries and their texts.

-- ---- an entry

abbrev pub Entry : Type 0
Entry = Row × Times

entry_parts : (x : Entry) (r : List ℕ) → entry_text x ++ r ≡ string x.0.path ++ (timed_text (x.0.kind, x.1) ++ r)
entry_parts x r = append_assoc (string x.0.path) (timed_text (x.0.kind, x.1)) r

entry_front : (wide : Bool) (limits : TreeLimits) (rows : List Row) (x y : Entry) (r s : List ℕ)
    → IsEntry wide limits rows x → IsEntry wide limits rows y
    → entry_text x ++ r ≡ entry_text y ++ s → (x ≡ y) × (r ≡ s)
entry_front wide limits rows x y r s x-fits y-fits e =
    let path = path_front x.0.path y.0.path (timed_text (x.0.kind, x.1) ++ r) (timed_text (y.0.kind, y.1) ++ s)
    x-fits.row.path y-fits.row.path (sym (entry_parts x r) ∙ e ∙ entry_parts y s) in
    let kind = kind_one wide limits rows (x.0.kind, x.1) (y.0.kind, y.1) r s (x-fits.row.kind, x-fits.timed)
    (y-fits.row.kind, y-fits.timed) path.1 in
    ((λ i. (record { path = path.0 i; kind = (kind.0 i).0 }, (kind.0 i).1)), kind.1)

-- a path that cannot be an entry's
pub path_unfit : (earlier : List Row) (bytes text rest : List ℕ) → Reads IsPlaceText string bytes text rest
    → (Follows earlier text → ⊥) → ReadsNone (Follows earlier) string bytes
path_unfit earlier bytes text rest path unfit other r follows e = grind (arith, path_front)

pub path_absent : (earlier : List Row) (bytes : List ℕ) → ReadsNone IsPlaceText string bytes
    → ReadsNone (Follows earlier) string bytes
path_absent earlier bytes none text rest follows e = none text rest follows.text e

pub follows_next : (limits : TreeLimits) (earlier : List Row) (row : Row) → IsNext limits earlier row
    → Follows earlier row.path
follows_next limits earlier row next = grind arith

-- ---- and the room for its content

-- what keeps to the room that is left keeps to both limits
room_kept : (limits : TreeLimits) (earlier : List Row) (kind : Kind) → contents_length earlier ≤ limits.total_bytes
    → IsKind (with_room limits (contents_length earlier)) earlier kind
    → IsKind limits earlier kind × (contents_length earlier + content_length kind ≤ limits.total_bytes)
room_kept limits earlier (Dir owner) within fits = (fits, omega (arith, within))
room_kept limits earlier (First owner bytes) within fits =
    ((fits.0, omega (arith, fits.1), fits.2), omega (arith, within, fits.1))
room_kept limits earlier (Further number) within fits = (fits, omega (arith, within))
room_kept limits earlier (Link target) within fits = (fits, omega (arith, within))

room_left : (limits : TreeLimits) (earlier : List Row) (kind : Kind) → IsKind limits earlier kind
    → contents_length earlier + content_length kind ≤ limits.total_bytes
    → IsKind (with_room limits (contents_length earlier)) earlier kind
room_left limits earlier (Dir owner) fits within = fits
room_left limits earlier (First owner bytes) fits within = (fits.0, omega (arith, within, fits.1), fits.2)
room_left limits earlier (Further number) fits within = fits
room_left limits earlier (Link target) fits within = fits

pub entry_fits : (wide : Bool) (limits : TreeLimits) (earlier : List Row) → contents_length earlier ≤ limits.total_bytes
    → (text : List ℕ) (kind : Kind) (times : Times) → Follows earlier text
    → IsTimedKind wide (with_room limits (contents_length earlier)) earlier (kind, times)
    → IsEntry wide limits earlier (record { path = text; kind = kind }, times)
entry_fits wide limits earlier within text kind times path what =
    let room = room_kept limits earlier kind within what.0 in
    record {
      row = record { path = path.text; below_root = path.below_root; later = path.later; parent = path.parent; kind = room.0 };
      room = room.1;
      timed = what.1;
    }

module _ (wide : Bool) (limits : TreeLimits) (earlier : List Row) (bytes : List ℕ) where
  pub no_path : ReadsNone (Follows earlier) string bytes → ReadsNone (IsEntry wide limits earlier) entry_text bytes
  no_path none entry rest fits e = none entry.0.path (timed_text (entry.0.kind, entry.1) ++ rest)
      (follows_next limits earlier entry.0 fits.row) (e ∙ entry_parts entry rest)

  module _ (within : contents_length earlier ≤ limits.total_bytes) (text middle : List ℕ)
      (path : Reads (Follows earlier) string bytes text middle) where
    pub entry_read : (rest : List ℕ) (kind : Kind) (times : Times)
        → Reads (IsTimedKind wide (with_room limits (contents_length earlier)) earlier) timed_text middle (kind, times) rest
        → Reads (IsEntry wide limits earlier) entry_text bytes (record { path = text; kind = kind }, times) rest
    entry_read rest kind times what = (
      entry_fits wide limits earlier within text kind times path.0 what.0,
      path.1 ∙ ap (λ (l : List ℕ). string text ++ l) what.1
          ∙ sym (entry_parts (record { path = text; kind = kind }, times) rest),
    )

    pub no_kind : ReadsNone (IsTimedKind wide (with_room limits (contents_length earlier)) earlier) timed_text middle
        → ReadsNone (IsEntry wide limits earlier) entry_text bytes
    no_kind none entry rest fits e =
        let same = path_front text entry.0.path middle (timed_text (entry.0.kind, entry.1) ++ rest) path.0.text
        fits.row.path (sym path.1 ∙ e ∙ entry_parts entry rest) in
        none (entry.0.kind, entry.1) rest
        (room_left limits earlier entry.0.kind fits.row.kind fits.room, fits.timed) same.1

pub contents_more : (rows : List Row) (row : Row)
    → contents_length (rows ++ row ∷ []) ≡ contents_length rows + content_length row.kind
contents_more [] row = omega arith
contents_more (r ∷ rows) row = omega (arith, contents_more rows row)

-- ---- entries

-- the entries after the first ones, where both lists are read of the same bytes
pub record GoesOn (wide : Bool) (limits : TreeLimits) (earlier : List Row) (front whole : List Entry)
    (rest tail : List ℕ) : Type 0 where
  pub more : List Entry
  pub whole_is : whole ≡ front ++ more
  pub entries_fit : AreEntries wide limits (earlier ++ rows_in front) more
  pub rest_is : rest ≡ flat_map entry_text more ++ tail

entries_parts : (entry : Entry) (entries : List Entry) (r : List ℕ)
    → flat_map entry_text (entry ∷ entries) ++ r ≡ entry_text entry ++ (flat_map entry_text entries ++ r)
entries_parts entry entries r = append_assoc (entry_text entry) (flat_map entry_text entries) r

module _ (wide : Bool) (limits : TreeLimits) where
  pub goes_on : (earlier : List Row) (front whole : List Entry) (rest tail : List ℕ)
      → AreEntries wide limits earlier front → AreEntries wide limits earlier whole → length front ≤ length whole
      → flat_map entry_text front ++ rest ≡ flat_map entry_text whole ++ tail
      → GoesOn wide limits earlier front whole rest tail
  goes_on earlier [] whole rest tail front-fits whole-fits short e = record {
    more = whole;
    whole_is = refl;
    entries_fit = subst (λ (rows : List Row). AreEntries wide limits rows whole) (sym (append-nil earlier)) whole-fits;
    rest_is = e;
  }
  goes_on earlier (x ∷ front) [] rest tail front-fits whole-fits short e = absurd (omega arith)
  goes_on earlier (x ∷ front) (y ∷ whole) rest tail front-fits whole-fits short e =
      let a = entry_front wide limits earlier x y (flat_map entry_text front ++ rest)
      (flat_map entry_text whole ++ tail) front-fits.0 whole-fits.0
      (sym (entries_parts x front rest) ∙ e ∙ entries_parts y whole tail) in
      let same_fits = subst (λ (z : Entry). AreEntries wide limits (earlier ++ z.0 ∷ []) whole) (sym a.0) whole-fits.1 in
      let next = goes_on (earlier ++ x.0 ∷ []) front whole rest tail front-fits.1 same_fits (omega arith) a.1 in
      record {
        more = next.more;
        whole_is = (λ i. sym a.0 i ∷ next.whole_is i);
        entries_fit = subst (λ (rows : List Row). AreEntries wide limits rows next.more) (append_assoc earlier (x.0 ∷ []) (rows_in front)) next.entries_fit;
        rest_is = next.rest_is;
      }

  -- the entries of bytes are one list
  pub entries_are_one : (earlier : List Row) (xs ys : List Entry) (r s : List ℕ)
      → AreEntries wide limits earlier xs → AreEntries wide limits earlier ys → length xs ≡ length ys
      → flat_map entry_text xs ++ r ≡ flat_map entry_text ys ++ s → (xs ≡ ys) × (r ≡ s)
  entries_are_one earlier [] [] r s x-fits y-fits len e = (refl, e)
  entries_are_one earlier (x ∷ xs) (y ∷ ys) r s x-fits y-fits len e =
      let a = entry_front wide limits earlier x y (flat_map entry_text xs ++ r) (flat_map entry_text ys ++ s) x-fits.0
      y-fits.0 (sym (entries_parts x xs r) ∙ e ∙ entries_parts y ys s) in
      let same_fits = subst (λ (z : Entry). AreEntries wide limits (earlier ++ z.0 ∷ []) ys) (sym a.0) y-fits.1 in
      let next = entries_are_one (earlier ++ x.0 ∷ []) xs ys r s x-fits.1 same_fits (omega arith) a.1 in
      ((λ i. a.0 i ∷ next.0 i), next.1)
  entries_are_one earlier xs ys r s x-fits y-fits len e = absurd (omega arith)

  pub entries_push : (earlier : List Row) (entries : List Entry) (entry : Entry) → AreEntries wide limits earlier entries
      → IsEntry wide limits (earlier ++ rows_in entries) entry
      → AreEntries wide limits earlier (entries ++ entry ∷ [])
  entries_push earlier [] entry fits next =
      (subst (λ (rows : List Row). IsEntry wide limits rows entry) (append-nil earlier) next, tt)
  entries_push earlier (x ∷ entries) entry fits next = (
    fits.0,
    entries_push (earlier ++ x.0 ∷ []) entries entry fits.1
        (subst (λ (rows : List Row). IsEntry wide limits rows entry) (sym (append_assoc earlier (x.0 ∷ []) (rows_in entries))) next),
  )

  -- ---- reading, entry by entry

  pub read_none : (bytes : List ℕ) → AreRead wide limits bytes [] 0 bytes
  read_none bytes = record { entries_fit = tt; count_is = refl; bytes_are = refl }

  pub read_more : (bytes : List ℕ) (entries : List Entry) (n m : ℕ) (rest after : List ℕ) (entry : Entry)
      → AreRead wide limits bytes entries n rest → Reads (IsEntry wide limits (rows_in entries)) entry_text rest entry after
      → m ≡ n + 1 → AreRead wide limits bytes (entries ++ entry ∷ []) m after
  read_more bytes entries n m rest after entry so_far read more = record {
    entries_fit = entries_push [] entries entry so_far.entries_fit read.0;
    count_is = length-append entries (entry ∷ []) ∙ ap (λ (k : ℕ). k + 1) so_far.count_is ∙ sym more;
    bytes_are = so_far.bytes_are ∙ ap (λ (l : List ℕ). flat_map entry_text entries ++ l) read.1
        ∙ sym (append_assoc (flat_map entry_text entries) (entry_text entry) after)
        ∙ ap (λ (l : List ℕ). l ++ after) (ap (λ (l : List ℕ). flat_map entry_text entries ++ l) (sym (append-nil (entry_text entry)))
        ∙ sym (flat_map-append entry_text entries (entry ∷ [])));
  }

  -- where more entries are to come, the rest starts with the next one
  pub entry_none : (bytes : List ℕ) (entries : List Entry) (n count : ℕ) (rest : List ℕ)
      → AreRead wide limits bytes entries n rest → n < count
      → ReadsNone (IsEntry wide limits (rows_in entries)) entry_text rest → AreNone wide limits count bytes
  entry_none bytes entries n count rest so_far lt none whole tail fits count_is is =
      let g = goes_on [] entries whole rest tail so_far.entries_fit fits (omega (arith, so_far.count_is, count_is, lt))
      (sym so_far.bytes_are ∙ is) in
      let len : length whole ≡ length entries + length g.more = ap length g.whole_is ∙ length-append entries g.more in
      by g.more g.entries_fit g.rest_is (omega (arith, so_far.count_is, count_is, lt, len))
    where
      by : (more : List Entry) → AreEntries wide limits (rows_in entries) more
          → rest ≡ flat_map entry_text more ++ tail → 0 < length more → ⊥
      by [] fits is lt = absurd (omega arith)
      by (entry ∷ more) fits is lt =
          none entry (flat_map entry_text more ++ tail) fits.0 (is ∙ entries_parts entry more tail)

-- ---- faults

pub or_fault : (error : TreeError) (P Q : Type 0) → OutOfMemoryOr error P → (P → Q) → OutOfMemoryOr error Q
or_fault error P Q h f = elim h [ inl e ↦ inl e | inr p ↦ inr (f p) ]
