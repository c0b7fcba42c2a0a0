-- The parts of a tree file, as they are read one after the other.
use Rattle.std.specs.Prelude.{◌≡◌, ℕ, ◌+◌, ◌<◌, ◌≤◌, ◌^◌, ◌⊎◌, ◌↔◌, ◌||◌, Bool, true, false, List, [], ◌∷◌, ◌++◌}
use Rattle.std.specs.Prelude.{◌-◌, length, min, take, IsTrue}
use Rattle.std.specs.List.{flat_map, AllByRecursion}
use Rattle.std.specs.declared.cmp.Ordering.TheVariants.{Less}
use Rattle.sftp_strings.specs.Strings.{uint32, string}
use Rattle.sftp_path.specs.Place.{Place, place_cmp, parent}
use Rattle.sftp_treefile.specs.declared.errors.TreeError.{TreeError}
use Rattle.sftp_treefile.specs.declared.errors.TreeError.TheVariants.{Magic, Short, Trailing, Value, Order, Parent}
use Rattle.sftp_treefile.specs.declared.errors.TreeError.TheVariants.{NoMemory, Io}
use Rattle.sftp_treefile.specs.declared.files.Owner.{Owner}
use Rattle.sftp_treefile.specs.declared.files.Kind.{Kind}
use Rattle.sftp_treefile.specs.declared.files.Kind.TheVariants.{Dir, First, Further, Link}
use Rattle.sftp_treefile.specs.declared.files.Row.{Row}
use Rattle.sftp_treefile.specs.declared.files.TreeFile.{TreeFile}
use Rattle.sftp_treefile.specs.declared.heads.Head.{Head}
use Rattle.sftp_treefile.specs.declared.limits.TreeLimits.{TreeLimits}
use Rattle.sftp_treefile.specs.declared.heads.Front.{Front}
use Rattle.sftp_treefile.specs.declared.limits.Opening.{Opening}
use Rattle.sftp_treefile.specs.declared.limits.Opening.TheVariants.{Usual, Raised, Wide}
use Rattle.sftp_treefile.specs.declared.times.Times.{Times}
use Rattle.sftp_treefile.specs.TreeFile.{AreLimits, AreBetween, usual_limits, highest_limits, are_own, are_far, is_wide}
use Rattle.sftp_treefile.specs.TreeFile.{tree_opening, limits_text, owner_text, place_of, has_dir, is_target}
use Rattle.sftp_treefile.specs.TreeFile.{opening_of}
use Rattle.sftp_treefile.specs.TreeFile.{are_bytes, is_first_row, entry_at, IsPlaceText, IsOwner, IsKind, IsNext}
use Rattle.sftp_treefile.specs.TreeFile.{no_times, any_times, AreTimes, times_of_root, root_owner_text, entry_text}
use Rattle.sftp_treefile.specs.TreeFile.{content_length, contents_length, has_times, times_text}
use Rattle.sftp_treefile.specs.TreeFile.{is_long, letter_for, owned_text}

-- ---- reading a field

-- the bytes are the text of this value, which can be written, and the rest
abbrev pub Reads : {A : Type 0} → (A → Type 0) → (A → List ℕ) → List ℕ → A → List ℕ → Type 0
Reads Fits text bytes value rest = Fits value × (bytes ≡ text value ++ rest)

-- the bytes start with the text of no value that can be written
abbrev pub ReadsNone : {A : Type 0} → (A → Type 0) → (A → List ℕ) → List ℕ → Type 0
ReadsNone {A} Fits text bytes = (value : A) (rest : List ℕ) → Fits value → bytes ≡ text value ++ rest → ⊥

-- memory ran out, or there is a fault
abbrev pub OutOfMemoryOr : TreeError → Type 0 → Type 0
OutOfMemoryOr error Fault = (error ≡ NoMemory) ⊎ Fault

-- the fault is in this entry, unless memory ran out; no source failed
abbrev pub IsAt : ℕ → TreeError → Type 0
IsAt entry (Magic n) = n ≡ entry
IsAt entry (Short n) = n ≡ entry
IsAt entry (Trailing n) = n ≡ entry
IsAt entry (Value n) = n ≡ entry
IsAt entry (Order n) = n ≡ entry
IsAt entry (Parent n) = n ≡ entry
IsAt entry (Io n) = ⊥
IsAt entry NoMemory = Unit {0}

-- ---- fields

abbrev pub IsNumber : ℕ → Type 0
IsNumber n = n < 2 ^ 32

abbrev pub IsLongNumber : ℕ → Type 0
IsLongNumber n = n < 2 ^ 64

abbrev pub IsPermissions : ℕ → Type 0
IsPermissions n = n < 2 ^ 12

abbrev pub IsCount : TreeLimits → ℕ → Type 0
IsCount limits n = n ≤ limits.entries

abbrev pub IsTarget : List ℕ → Type 0
IsTarget target = IsTrue (is_target target) × IsTrue (are_bytes target)

abbrev pub IsFileBytes : TreeLimits → List ℕ → Type 0
IsFileBytes limits bytes = (length bytes ≤ limits.file_bytes) × IsTrue (are_bytes bytes)

-- the times that an entry may have, by whether the file has the third opening
abbrev pub AreTimesIn : Bool → Times → Type 0
AreTimesIn false times = times ≡ no_times
AreTimesIn true times = AreTimes times

-- whether an entry may have times
abbrev pub IsKnownIn : Bool → Bool → Type 0
IsKnownIn wide timed = IsTrue timed → IsTrue wide

-- times, by whether there are some
abbrev pub AreGiven : Bool → Times → Type 0
AreGiven timed times = AreTimes times × (has_times times ≡ timed)

-- an owner, and times by whether there are some
abbrev pub IsGivenOwner : Bool → Owner × Times → Type 0
IsGivenOwner timed owned = IsOwner owned.0 × AreGiven timed owned.1

abbrev pub given_owner_text : Bool → Owner × Times → List ℕ
given_owner_text timed owned = owner_text owned.0 ++ times_text timed owned.1

-- the number of the bytes of a file, by whether it is long
abbrev pub IsGivenLength : Bool → ℕ → Type 0
IsGivenLength long count = (count < 2 ^ 64) × (is_long count ≡ long)

-- who owns a directory, and its times
abbrev pub directory_text : Owner × Times → List ℕ
directory_text owned = letter_for (has_times owned.1) 68 ∷ owned_text owned.0 owned.1

-- who owns an entry, and its times
abbrev pub IsOwnedIn : Bool → Owner × Times → Type 0
IsOwnedIn wide owned = IsOwner owned.0 × AreTimesIn wide owned.1

-- the length that the bytes of a file may have, so that it can be written
abbrev pub IsLengthIn : Bool → ℕ → Type 0
IsLengthIn false count = count < 2 ^ 32
IsLengthIn true count = count < 2 ^ 64

-- what an entry may be, by whether the file has the third opening
abbrev pub IsOfOpening : Bool → Kind × Times → Type 0
IsOfOpening wide (Dir owner, times) = AreTimesIn wide times
IsOfOpening wide (First owner bytes, times) = AreTimesIn wide times × IsLengthIn wide (length bytes)
IsOfOpening wide (Further number, times) = times ≡ no_times
IsOfOpening wide (Link target, times) = times ≡ no_times

-- and besides what an entry after these may be
abbrev pub IsTimedKind : Bool → TreeLimits → List Row → Kind × Times → Type 0
IsTimedKind wide limits earlier timed = IsKind limits earlier timed.0 × IsOfOpening wide timed

-- the number of the first name of a file among these rows
abbrev pub IsFirstAmong : List Row → ℕ → Type 0
IsFirstAmong rows number = (number < 2 ^ 32) × IsTrue (is_first_row (entry_at rows number))

-- ---- the head: its front, the limits, and what it says of the root

-- what a front says: whether limits are to follow, the home, and who owns what is made with no owner given
pub record IsFront (front : Front) : Type 0 where
  pub home : IsPlaceText front.home
  pub uid : IsNumber front.uid
  pub gid : IsNumber front.gid

-- the opening, the home, and who owns what is made with no owner given
abbrev pub front_text : Opening → List ℕ → ℕ → ℕ → List ℕ
front_text opening home uid gid = tree_opening opening ++ (string home ++ (uint32 uid ++ uint32 gid))

abbrev pub front_bytes : Front → List ℕ
front_bytes front = front_text front.opening front.home front.uid front.gid

-- the limits after the second opening, each in its range
abbrev pub AreRaised : TreeLimits → Type 0
AreRaised limits = AreBetween usual_limits highest_limits limits

-- the limits after an opening
abbrev pub AreSet : Opening → TreeLimits → Type 0
AreSet Usual limits = limits ≡ usual_limits
AreSet Raised limits = AreRaised limits × (are_own limits ≡ true)
AreSet Wide limits = AreLimits limits

-- the owner alone, where there are no times
abbrev pub plain_owner_text : Owner × Times → List ℕ
plain_owner_text root = owner_text root.0

-- how many entries there are, who owns the root, and its times
abbrev pub IsRoot : Opening → TreeLimits → ℕ × (Owner × Times) → Type 0
IsRoot opening limits root = IsCount limits root.0 × IsOwnedIn (is_wide opening) root.1

abbrev pub root_text : Opening → ℕ × (Owner × Times) → List ℕ
root_text opening root = uint32 root.0 ++ root_owner_text opening root.1

abbrev pub head_bytes : Head → List ℕ
head_bytes head =
    front_text head.opening head.home head.uid head.gid
    ++ (limits_text head.opening head.limits ++ root_text head.opening (head.count, (head.root, head.root_times)))

-- what a file says before its entries
abbrev pub head_of : TreeFile → Head
head_of file = record {
  opening = opening_of file;
  limits = file.limits;
  home = file.home;
  uid = file.uid;
  gid = file.gid;
  count = length file.rows;
  root = file.root;
  root_times = times_of_root file.times;
}

-- the bytes before the entries
abbrev pub head_text : TreeFile → List ℕ
head_text file = head_bytes (head_of file)

-- what a head may say
pub record IsHead (head : Head) : Type 0 where
  pub limits : AreSet head.opening head.limits
  pub home : IsPlaceText head.home
  pub uid : IsNumber head.uid
  pub gid : IsNumber head.gid
  pub count : IsCount head.limits head.count
  pub root : IsOwnedIn (is_wide head.opening) (head.root, head.root_times)

-- ---- entries

-- the lengths of the strings of an entry can be written
abbrev pub KindHasLengths : Kind → Type 0
KindHasLengths (Dir owner) = Unit {0}
KindHasLengths (First owner bytes) = length bytes < 2 ^ 64
KindHasLengths (Further number) = Unit {0}
KindHasLengths (Link target) = length target < 2 ^ 32

pub record HasLengths (row : Row) : Type 0 where
  pub path : length row.path < 2 ^ 32
  pub kind : KindHasLengths row.kind

-- the path may be that of an entry after these
pub record Follows (earlier : List Row) (path : List ℕ) : Type 0 where
  pub text : IsPlaceText path
  pub below_root : 0 < length (place_of path)
  pub later : AllByRecursion (λ (r : Row). place_cmp (place_of r.path) (place_of path) ≡ Less) earlier
  pub parent : IsTrue (has_dir earlier (parent (place_of path)))

-- what the place of the last entry, and whether that is a directory, say of all entries so far
pub record IsLast (rows : List Row) (last : Place) (is_dir : Bool) : Type 0 where
  -- what comes after the last comes after each
  pub later : (place : Place) → 0 < length place
      → (place_cmp last place ≡ Less) ↔ AllByRecursion (λ (r : Row). place_cmp (place_of r.path) place ≡ Less) rows
  -- each place above the last is a directory
  pub above : (depth : ℕ) → depth < length last → IsTrue (has_dir rows (take depth last))
  -- whether the last is
  pub itself : has_dir rows last ≡ is_dir

-- each row with its times; those that there are no times for have none
abbrev pub paired : List Row → List Times → List (Row × Times)
paired [] times = []
paired (row ∷ rows) [] = (row, no_times) ∷ paired rows []
paired (row ∷ rows) (t ∷ times) = (row, t) ∷ paired rows times

-- the entry may follow these rows: its row may, there is room for its content, and the opening knows its letter
pub record IsEntry (wide : Bool) (limits : TreeLimits) (earlier : List Row) (entry : Row × Times) : Type 0 where
  pub row : IsNext limits earlier entry.0
  pub room : contents_length earlier + content_length entry.0.kind ≤ limits.total_bytes
  pub timed : IsOfOpening wide (entry.0.kind, entry.1)

-- each entry may follow those before it, the rows of the first of which are given apart
abbrev pub AreEntries : Bool → TreeLimits → List Row → List (Row × Times) → Type 0
AreEntries wide limits earlier [] = Unit {0}
AreEntries wide limits earlier (entry ∷ entries) =
    IsEntry wide limits earlier entry × AreEntries wide limits (earlier ++ entry.0 ∷ []) entries

-- `count` entries are read, and the rest of the bytes is not
pub record AreRead (wide : Bool) (limits : TreeLimits) (bytes : List ℕ) (entries : List (Row × Times)) (count : ℕ)
    (rest : List ℕ) : Type 0 where
  pub entries_fit : AreEntries wide limits [] entries
  pub count_is : length entries ≡ count
  pub bytes_are : bytes ≡ flat_map entry_text entries ++ rest

-- the bytes do not start with `count` entries
abbrev pub AreNone : Bool → TreeLimits → ℕ → List ℕ → Type 0
AreNone wide limits count bytes =
    (entries : List (Row × Times)) (rest : List ℕ) → AreEntries wide limits [] entries → length entries ≡ count
    → bytes ≡ flat_map entry_text entries ++ rest → ⊥

-- the limits, with no more bytes for the next file than all files may yet have
abbrev pub with_room : TreeLimits → ℕ → TreeLimits
with_room limits total = record limits { file_bytes = min limits.file_bytes (limits.total_bytes - total) }

-- ---- what is known at the end

-- the times of a file, of which none are kept if all are 0
abbrev pub kept_by : Bool → List Times → List Times
kept_by false times = []
kept_by true times = times

abbrev pub kept : List Times → List Times
kept times = kept_by (any_times times) times

-- whether a file with these limits and times has this opening: the third one is for what the others do not hold
abbrev pub is_lowest : Opening → TreeLimits → List Times → Bool
is_lowest Usual limits times = true
is_lowest Raised limits times = true
is_lowest Wide limits times = any_times times || are_far limits
