-- Tree files: what a tree is, as rows and as bytes. This profile's own.
use Rattle.std.specs.Prelude.{◌==◌, ◌&&◌, not, ℕ, ◌≤◌, Bool, List, [], ◌∷◌, ◌≡◌, ◌||◌, nat_lt, nat_eq, zero, suc, ◌<◌}
use Rattle.std.specs.Prelude.{nat_le, ◌+◌, max}
use Rattle.std.specs.Prelude.{◌^◌, true, false, ◌++◌, length, Option, Some, None, Result, MatchResult, IsTrue, codes}
use Rattle.sftp_treefile.specs.declared.limits.TreeLimits.{TreeLimits}
use Rattle.sftp_treefile.specs.declared.limits.Opening.{Opening}
use Rattle.sftp_treefile.specs.declared.limits.Opening.TheVariants.{Usual, Raised, Wide}
use Rattle.sftp_treefile.specs.declared.times.Times.{Times}
use Rattle.std.specs.List.{flat_map, list_all, list_any, slice_get, AllByRecursion}
use Rattle.std.specs.Cmp.Lexicographic.{pointwise}
use Rattle.std.specs.declared.cmp.Ordering.TheVariants.{Less}
use Rattle.sftp_strings.specs.Strings.{uint32, uint64, string}
use Rattle.sftp_path.specs.Place.{Place, place_cmp, parent, are_names, absolute, components, is_good_path, depth_limit}
use Rattle.sftp_treefile.specs.declared.errors.TreeError.{TreeError}
use Rattle.sftp_treefile.specs.declared.errors.TreeError.TheVariants.{NoMemory}
use Rattle.sftp_treefile.specs.declared.files.Owner.{Owner}
use Rattle.sftp_treefile.specs.declared.files.Kind.{Kind}
use Rattle.sftp_treefile.specs.declared.files.Kind.TheVariants.{Dir, First, Further, Link}
use Rattle.sftp_treefile.specs.declared.files.Row.{Row}
use Rattle.sftp_treefile.specs.declared.files.TreeFile.{TreeFile}

-- ==== The limits that a tree may set. This profile's own.

-- fewer than 2 ^ 32 files, as many as there are numbers for, of 67108864 bytes each hold no more bytes together: a tree
-- without a limit on all contents has this one, and keeps it without a test
abbrev pub all_bytes : ℕ
all_bytes = 288230376151711744

-- those of a tree that sets none
abbrev pub usual_limits : TreeLimits
usual_limits = record {
  entries = 65536;
  file_bytes = 16777216;
  read_bytes = 32768;
  open_handles = 256;
  total_bytes = all_bytes;
}

-- the highest after the second opening, where all contents have no limit of their own; the lowest are the usual ones
abbrev pub highest_limits : TreeLimits
highest_limits = record {
  entries = 1048576;
  file_bytes = 67108864;
  read_bytes = 65536;
  open_handles = 1024;
  total_bytes = all_bytes;
}

-- the lowest that a tree may set
abbrev pub least_limits : TreeLimits
least_limits = record usual_limits { total_bytes = 16777216 }

-- the highest that a tree may set: with three entries more, an entry's number, or that of the names of a file, would
-- not be a uint32; one READ of as many bytes still is a packet
abbrev pub most_limits : TreeLimits
most_limits = record {
  entries = 4294967293;
  file_bytes = 1099511627776;
  read_bytes = 261120;
  open_handles = 65536;
  total_bytes = all_bytes;
}

abbrev pub IsBetween : ℕ → ℕ → ℕ → Type 0
IsBetween lowest highest n = (lowest ≤ n) × (n ≤ highest)

-- each limit is in its range
pub record AreBetween (low high limits : TreeLimits) : Type 0 where
  pub entries : IsBetween low.entries high.entries limits.entries
  pub file_bytes : IsBetween low.file_bytes high.file_bytes limits.file_bytes
  pub read_bytes : IsBetween low.read_bytes high.read_bytes limits.read_bytes
  pub open_handles : IsBetween low.open_handles high.open_handles limits.open_handles
  pub total_bytes : IsBetween low.total_bytes high.total_bytes limits.total_bytes

-- those of a tree
abbrev pub AreLimits : TreeLimits → Type 0
AreLimits limits = AreBetween least_limits most_limits limits

-- the four that a client may ask for, in the order of a tree file
abbrev pub numbers : TreeLimits → List ℕ
numbers limits = limits.entries ∷ limits.file_bytes ∷ limits.read_bytes ∷ limits.open_handles ∷ []

-- whether a tree with these limits sets limits of its own: they are not all the usual ones
unfoldable pub are_own : TreeLimits → Bool
are_own limits =
    not (limits.entries == usual_limits.entries && (limits.file_bytes == usual_limits.file_bytes
    && (limits.read_bytes == usual_limits.read_bytes && (limits.open_handles == usual_limits.open_handles
    && limits.total_bytes == usual_limits.total_bytes))))

-- whether one of them is beyond those of the second opening
unfoldable pub are_far : TreeLimits → Bool
are_far limits =
    nat_lt highest_limits.entries limits.entries || (nat_lt highest_limits.file_bytes limits.file_bytes
    || (nat_lt highest_limits.read_bytes limits.read_bytes || (nat_lt highest_limits.open_handles limits.open_handles
    || nat_lt limits.total_bytes highest_limits.total_bytes)))

-- ---- the lowest opening that holds a tree

abbrev pub is_wide : Opening → Bool
is_wide Usual = false
is_wide Raised = false
is_wide Wide = true

-- by whether it needs the third, and else by whether it sets limits of its own
abbrev pub opening_by : Bool → Bool → Opening
opening_by true own = Wide
opening_by false true = Raised
opening_by false false = Usual

-- the lowest that holds a tree with these limits and times, or without
abbrev pub opening_with : Bool → TreeLimits → Opening
opening_with timed limits = opening_by (timed || are_far limits) (are_own limits)

-- ---- as bytes

abbrev pub tree_opening : Opening → List ℕ
tree_opening Usual = codes "SFTREE01"
tree_opening Raised = codes "SFTREE02"
tree_opening Wide = codes "SFTREE03"

-- the limits after an opening
abbrev pub limits_text : Opening → TreeLimits → List ℕ
limits_text Usual limits = []
limits_text Raised limits =
    uint32 limits.entries ++ (uint32 limits.file_bytes ++ (uint32 limits.read_bytes ++ uint32 limits.open_handles))
limits_text Wide limits =
    uint32 limits.entries ++ (uint64 limits.file_bytes ++ (uint32 limits.read_bytes ++ (uint32 limits.open_handles
    ++ uint64 limits.total_bytes)))

abbrev pub owner_text : Owner → List ℕ
owner_text owner = uint32 owner.uid ++ (uint32 owner.gid ++ uint32 owner.permissions)

-- whether the length of the bytes of a file is no uint32
abbrev pub is_long : ℕ → Bool
is_long count = nat_le (2 ^ 32) count

-- the letter of a first name, and the length of the bytes of its file, by whether that is long
abbrev pub file_letter : Bool → ℕ
file_letter false = 70
file_letter true = 71

abbrev pub length_text : Bool → ℕ → List ℕ
length_text false count = uint32 count
length_text true count = uint64 count

-- the kind's letter, and what it says: `D` and the owner, `F` with the owner and the bytes of a file, `G` with those of
-- a long one, `H` and the number of the entry that has its file, `L` and the target
abbrev pub kind_text : Kind → List ℕ
kind_text (Dir owner) = 68 ∷ owner_text owner
kind_text (First owner bytes) =
    file_letter (is_long (length bytes))
    ∷ (owner_text owner ++ (length_text (is_long (length bytes)) (length bytes) ++ bytes))
kind_text (Further number) = 72 ∷ uint32 number
kind_text (Link target) = 76 ∷ string target

abbrev pub row_text : Row → List ℕ
row_text row = string row.path ++ kind_text row.kind

-- ---- times

abbrev pub no_times : Times
no_times = record { accessed = 0; modified = 0 }

-- whether there are times: they are not both 0
abbrev pub has_times : Times → Bool
has_times times = not (times.accessed == 0 && times.modified == 0)

abbrev pub times_text : Bool → Times → List ℕ
times_text false times = []
times_text true times = uint32 times.accessed ++ uint32 times.modified

-- a small letter says that there are times
abbrev pub letter_for : Bool → ℕ → ℕ
letter_for false letter = letter
letter_for true letter = letter + 32

-- who owns an entry, and its times
abbrev pub owned_text : Owner → Times → List ℕ
owned_text owner times = owner_text owner ++ times_text (has_times times) times

-- the same with times: those that are not both 0 stand behind the owner, and the letter is `d`, `f` or `g`
abbrev pub timed_text : Kind × Times → List ℕ
timed_text (Dir owner, times) = letter_for (has_times times) 68 ∷ owned_text owner times
timed_text (First owner bytes, times) =
    letter_for (has_times times) (file_letter (is_long (length bytes))) ∷ (owned_text owner times
    ++ (length_text (is_long (length bytes)) (length bytes) ++ bytes))
timed_text (Further number, times) = 72 ∷ uint32 number
timed_text (Link target, times) = 76 ∷ string target

abbrev pub entry_text : Row × Times → List ℕ
entry_text entry = string entry.0.path ++ timed_text (entry.0.kind, entry.1)

-- the rows, with times for as many of them as there are times
abbrev pub entries_text : List Row → List Times → List ℕ
entries_text rows [] = flat_map row_text rows
entries_text [] (t ∷ times) = []
entries_text (row ∷ rows) (t ∷ times) = entry_text (row, t) ++ entries_text rows times

-- of the times of a file, which begin with the root's
abbrev pub times_of_root : List Times → Times
times_of_root [] = no_times
times_of_root (t ∷ times) = t

abbrev pub times_of_rows : List Times → List Times
times_of_rows [] = []
times_of_rows (t ∷ times) = times

-- the root's owner; after the third opening its letter is before it, and its times are behind it
abbrev pub root_owner_text : Opening → Owner × Times → List ℕ
root_owner_text Usual root = owner_text root.0
root_owner_text Raised root = owner_text root.0
root_owner_text Wide root = letter_for (has_times root.1) 68 ∷ owned_text root.0 root.1

abbrev pub times_or : Option Times → Times
times_or None = no_times
times_or (Some times) = times

-- the times of the entry of this number; the root's is 0
abbrev pub times_at : List Times → ℕ → Times
times_at times n = times_or (slice_get times n)

-- ---- the opening and the bytes of a file

abbrev pub any_times : List Times → Bool
any_times [] = false
any_times (t ∷ times) = has_times t || any_times times

-- the lowest opening that holds the file
abbrev pub opening_of : TreeFile → Opening
opening_of file = opening_with (any_times file.times) file.limits

-- the bytes of a tree file after an opening
unfoldable pub spelled_after : Opening → TreeFile → List ℕ
spelled_after opening file =
    tree_opening opening ++ (string file.home ++ (uint32 file.uid ++ (uint32 file.gid
    ++ (limits_text opening file.limits ++ (uint32 (length file.rows)
    ++ (root_owner_text opening (file.root, times_of_root file.times)
    ++ entries_text file.rows (times_of_rows file.times)))))))

-- the bytes of a tree file: it has the third opening exactly if it has times, or a limit beyond those of the second,
-- and the second exactly if its limits are else not all the usual ones
unfoldable pub spelled : TreeFile → List ℕ
spelled file = spelled_after (opening_of file) file

-- ---- which rows a tree file may have

-- the place that a text leads to from the root
abbrev pub place_of : List ℕ → Place
place_of text = components text

-- the one absolute text of a place within the limit
pub record IsPlaceText (text : List ℕ) : Type 0 where
  pub names : IsTrue (are_names (place_of text))
  pub depth : length (place_of text) ≤ depth_limit
  pub one : text ≡ absolute (place_of text)

-- permissions have twelve bits
abbrev pub IsOwner : Owner → Type 0
IsOwner owner = (owner.uid < 2 ^ 32) × (owner.gid < 2 ^ 32) × (owner.permissions < 2 ^ 12)

-- the target of a link is a good path, and not empty
abbrev pub is_target : List ℕ → Bool
is_target target = nat_lt 0 (length target) && is_good_path target

abbrev pub are_bytes : List ℕ → Bool
are_bytes bytes = list_all (λ b. nat_lt b 256) bytes

-- whether this is the first name of a file
abbrev pub is_first : Kind → Bool
is_first (Dir owner) = false
is_first (First owner bytes) = true
is_first (Further number) = false
is_first (Link target) = false

abbrev pub is_first_row : Option Row → Bool
is_first_row None = false
is_first_row (Some row) = is_first row.kind

-- the entry of a number; entries count from 1
abbrev pub entry_at : List Row → ℕ → Option Row
entry_at rows zero = None
entry_at rows (suc n) = slice_get rows n

-- what an entry after these may be: a further name is that of a file whose first name is among them
abbrev pub IsKind : TreeLimits → List Row → Kind → Type 0
IsKind limits earlier (Dir owner) = IsOwner owner
IsKind limits earlier (First owner bytes) =
    IsOwner owner × (length bytes ≤ limits.file_bytes) × IsTrue (are_bytes bytes)
IsKind limits earlier (Further number) = (number < 2 ^ 32) × IsTrue (is_first_row (entry_at earlier number))
IsKind limits earlier (Link target) = IsTrue (is_target target) × IsTrue (are_bytes target)

abbrev pub same_place : Place → Place → Bool
same_place p q = pointwise (pointwise nat_eq) p q

abbrev pub is_root : Place → Bool
is_root [] = true
is_root (n ∷ ns) = false

abbrev pub is_dir : Kind → Bool
is_dir (Dir owner) = true
is_dir (First owner bytes) = false
is_dir (Further number) = false
is_dir (Link target) = false

-- whether a row is that of a directory at this place
abbrev pub is_dir_at : Place → Row → Bool
is_dir_at place row = is_dir row.kind && same_place (place_of row.path) place

-- whether the place is a directory: the root, or one of the rows says so
unfoldable pub has_dir : List Row → Place → Bool
has_dir rows place = is_root place || list_any (is_dir_at place) rows

-- the row may follow these: its place comes after theirs, and its parent is the root or a directory among them
pub record IsNext (limits : TreeLimits) (earlier : List Row) (row : Row) : Type 0 where
  pub path : IsPlaceText row.path
  pub below_root : 0 < length (place_of row.path)
  pub later : AllByRecursion (λ (r : Row). place_cmp (place_of r.path) (place_of row.path) ≡ Less) earlier
  pub parent : IsTrue (has_dir earlier (parent (place_of row.path)))
  pub kind : IsKind limits earlier row.kind

-- each row may follow those before it, the first of which are given apart
abbrev pub AreRows : TreeLimits → List Row → List Row → Type 0
AreRows limits earlier [] = Unit {0}
AreRows limits earlier (row ∷ rows) = IsNext limits earlier row × AreRows limits (earlier ++ row ∷ []) rows

-- how many bytes the files have together
abbrev pub content_length : Kind → ℕ
content_length (Dir owner) = 0
content_length (First owner bytes) = length bytes
content_length (Further number) = 0
content_length (Link target) = 0

abbrev pub contents_length : List Row → ℕ
contents_length [] = 0
contents_length (row ∷ rows) = content_length row.kind + contents_length rows

-- the bytes of the longest file
abbrev pub longest : List Row → ℕ
longest [] = 0
longest (row ∷ rows) = max (content_length row.kind) (longest rows)

-- the highest limits after the second opening, or those that there are where they are higher
abbrev pub raised_limits : TreeLimits → TreeLimits
raised_limits limits = record {
  entries = max highest_limits.entries limits.entries;
  file_bytes = max highest_limits.file_bytes limits.file_bytes;
  read_bytes = max highest_limits.read_bytes limits.read_bytes;
  open_handles = max highest_limits.open_handles limits.open_handles;
  total_bytes = limits.total_bytes;
}

-- the lowest limits on entries and the bytes of a file that hold these rows; the others are the usual ones
abbrev pub fitting_limits : List Row → TreeLimits
fitting_limits rows = record {
  entries = max usual_limits.entries (length rows);
  file_bytes = max usual_limits.file_bytes (longest rows);
  read_bytes = usual_limits.read_bytes;
  open_handles = usual_limits.open_handles;
  total_bytes = usual_limits.total_bytes;
}

-- times are numbers
abbrev pub AreTimes : Times → Type 0
AreTimes times = (times.accessed < 2 ^ 32) × (times.modified < 2 ^ 32)

-- a directory and a first name may have times
abbrev pub MayHaveTimes : Kind → Times → Type 0
MayHaveTimes (Dir owner) times = AreTimes times
MayHaveTimes (First owner bytes) times = AreTimes times
MayHaveTimes (Further number) times = times ≡ no_times
MayHaveTimes (Link target) times = times ≡ no_times

-- one for each row
abbrev pub AreTimesOf : List Row → List Times → Type 0
AreTimesOf [] [] = Unit {0}
AreTimesOf [] (t ∷ times) = ⊥
AreTimesOf (row ∷ rows) [] = ⊥
AreTimesOf (row ∷ rows) (t ∷ times) = MayHaveTimes row.kind t × AreTimesOf rows times

-- none, where none are known; else those of the root and of each row, some of which are not 0
abbrev pub AreFileTimes : List Row → List Times → Type 0
AreFileTimes rows [] = Unit {0}
AreFileTimes rows (t ∷ times) = AreTimes t × AreTimesOf rows times × IsTrue (any_times (t ∷ times))

-- what a tree file may say
pub record IsTreeFile (file : TreeFile) : Type 0 where
  pub limits : AreLimits file.limits
  pub home : IsPlaceText file.home
  pub uid : file.uid < 2 ^ 32
  pub gid : file.gid < 2 ^ 32
  pub count : length file.rows ≤ file.limits.entries
  pub root : IsOwner file.root
  pub rows : AreRows file.limits [] file.rows
  pub total : contents_length file.rows ≤ file.limits.total_bytes
  pub times : AreFileTimes file.rows file.times

-- the bytes are the tree file that says this
pub record IsSpelled (file : TreeFile) (bytes : List ℕ) : Type 0 where
  pub may_be : IsTreeFile file
  pub bytes_are : bytes ≡ spelled file

-- the result says this, unless memory ran out
abbrev pub GivesFile : Result TreeFile TreeError → TreeFile → Type 0
GivesFile result file = MatchResult result (λ f. f ≡ file) (λ error. error ≡ NoMemory)
