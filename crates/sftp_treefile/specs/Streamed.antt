-- Tree files that are read from a source: what is taken of the bytes ahead.
use Rattle.std.specs.Prelude.{◌≡◌, ◌==◌, ◌||◌, ℕ, ◌<◌, ◌≤◌, ◌⊎◌, Bool, List, [], ◌∷◌, ◌++◌, length, IsTrue}
use Rattle.std.specs.Prelude.{Result, MatchResult}
use Rattle.std.specs.Prelude.{map}
use Rattle.std.specs.List.{flat_map}
use Rattle.sftp_treefile.specs.declared.heads.Head.{Head}
use Rattle.std.specs.Io.KnownBytes.{IsAtEnd, Keeps}
use Rattle.sftp_streams.specs.Streams.{Ahead, bytes_ahead, HasAhead}
use Rattle.sftp_treefile.specs.declared.errors.TreeError.{TreeError}
use Rattle.sftp_treefile.specs.declared.errors.TreeError.TheVariants.{NoMemory, Io}
use Rattle.sftp_treefile.specs.declared.files.Owner.{Owner}
use Rattle.sftp_treefile.specs.declared.files.Row.{Row}
use Rattle.sftp_treefile.specs.declared.files.TreeFile.{TreeFile}
use Rattle.sftp_treefile.specs.declared.limits.TreeLimits.{TreeLimits}
use Rattle.sftp_treefile.specs.declared.files.Kind.TheVariants.{First}
use Rattle.sftp_treefile.specs.declared.times.Times.{Times}
use Rattle.sftp_treefile.specs.TreeFile.{IsOwner, are_bytes, has_times, letter_for, file_letter, is_long, owned_text}
use Rattle.sftp_treefile.specs.TreeFile.{length_text, timed_text, entry_text, is_wide}
use Rattle.sftp_treefile.specs.TreeFileParts.{ReadsNone, IsAt, AreNone, AreEntries, AreTimesIn, IsLengthIn, kept}
use Rattle.sftp_treefile.specs.TreeFileParts.{is_lowest}
use Rattle.sftp_treefile.specs.TreeFileParts.{IsFileBytes}
use Rattle.sftp_streams.specs.Streams.{one_more}
use Rattle.sftp_treefile.specs.declared.errors.WriteError.{WriteError}
use Rattle.sftp_treefile.specs.declared.errors.WriteError.TheVariants.{NoMemory, Failed}

-- ---- why nothing is read

-- memory ran out, or the source failed
abbrev pub IsExcuse : TreeError → Type 0
IsExcuse NoMemory = Unit {0}
IsExcuse (Io entry) = Unit {0}
IsExcuse other = ⊥

-- memory ran out, or the source failed, or there is a fault
abbrev pub ExcuseOr : TreeError → Type 0 → Type 0
ExcuseOr error Fault = IsExcuse error ⊎ Fault

-- the fault or the failure is in this entry, unless memory ran out; only a source that may fail does
abbrev pub IsIn : Bool → ℕ → TreeError → Type 0
IsIn may_fail entry (Io n) = (n ≡ entry) × IsTrue may_fail
IsIn may_fail entry other = IsAt entry other

-- the same of one of `count` entries, unless memory ran out
abbrev pub IsAmong : Bool → ℕ → TreeError → Type 0
IsAmong may_fail count NoMemory = Unit {0}
IsAmong may_fail count error = (n : ℕ) × (1 ≤ n) × (n ≤ count) × IsIn may_fail n error

-- only a source that may fail does
abbrev pub MayFail : Bool → TreeError → Type 0
MayFail may_fail (Io n) = IsTrue may_fail
MayFail may_fail other = Unit {0}

-- ---- bytes held

-- the most bytes held
abbrev pub capacity : ℕ
capacity = 131072

-- how many bytes are held at least, unless no more are left: a head, a path, and what an entry says between its path
-- and the bytes of a file have at most as many
abbrev pub window : ℕ
window = 24576

abbrev pub HoldsWindow : Ahead → Type 0
HoldsWindow a = (window ≤ length a.held) ⊎ IsAtEnd a.left

-- the same bytes are ahead
abbrev pub IsSame : Ahead → Ahead → Type 0
IsSame old new = Keeps (bytes_ahead old) (bytes_ahead new)

-- ---- taking a field

-- a value that can be written is taken: its text is in front of the bytes ahead before, and what follows is ahead after
abbrev pub Takes : {A : Type 0} → (A → Type 0) → (A → List ℕ) → Ahead → A → Ahead → Type 0
Takes Fits text old value new =
    Fits value × ((before : List ℕ) → HasAhead old before
    → (after : List ℕ) × HasAhead new after × (before ≡ text value ++ after))

-- the bytes ahead start with the text of no value that can be written
abbrev pub Lacks : {A : Type 0} → (A → Type 0) → (A → List ℕ) → Ahead → Type 0
Lacks Fits text old = (before : List ℕ) → HasAhead old before → ReadsNone Fits text before

-- so many bytes, each less than 256
abbrev pub AreCounted : ℕ → List ℕ → Type 0
AreCounted count bytes = (length bytes ≡ count) × IsTrue (are_bytes bytes)

-- bytes are their own text
abbrev pub plain : List ℕ → List ℕ
plain bytes = bytes

-- a file's owner, its times, and the number of its bytes
abbrev pub IsFileStart : Bool → Owner × (Times × ℕ) → Type 0
IsFileStart wide start = IsOwner start.0 × (AreTimesIn wide start.1.0 × IsLengthIn wide start.1.1)

-- what the entry of a file says between its path and the bytes of the file
abbrev pub file_start_text : Owner × (Times × ℕ) → List ℕ
file_start_text start =
    letter_for (has_times start.1.0) (file_letter (is_long start.1.1))
    ∷ (owned_text start.0 start.1.0 ++ length_text (is_long start.1.1) start.1.1)

-- a file's owner, its times, and its bytes
abbrev pub IsFile : Bool → TreeLimits → Owner × (Times × List ℕ) → Type 0
IsFile wide limits file = IsFileStart wide (file.0, (file.1.0, length file.1.1)) × IsFileBytes limits file.1.1

-- what the entry of a file says after its path
abbrev pub file_text : Owner × (Times × List ℕ) → List ℕ
file_text file = timed_text (First file.0 file.1.1, file.1.0)

-- whether this is the letter of a first name
abbrev pub is_file_letter : ℕ → Bool
is_file_letter letter = letter == 70 || (letter == 102 || (letter == 71 || letter == 103))

-- no bytes are ahead
abbrev pub IsNothing : Ahead → Type 0
IsNothing old = (before : List ℕ) → HasAhead old before → before ≡ []

-- bytes are taken and appended: at least one, and at most so many
pub record TakesSome (most : ℕ) (old : Ahead) (bytes : List ℕ) (new : Ahead) (longer : List ℕ) : Type 0 where
  pub more : List ℕ
  pub appended : longer ≡ bytes ++ more
  pub some : 0 < length more
  pub within : length more ≤ most
  pub taken : (before : List ℕ) → HasAhead old before → (after : List ℕ) × HasAhead new after × (before ≡ more ++ after)

-- ---- taking entries

abbrev pub rows_in : List (Row × Times) → List Row
rows_in entries = map (λ (e : Row × Times). e.0) entries

abbrev pub times_in : List (Row × Times) → List Times
times_in entries = map (λ (e : Row × Times). e.1) entries

-- these are taken
abbrev pub TakesText : List ℕ → Ahead → Ahead → Type 0
TakesText text old new = (before : List ℕ) → HasAhead old before
    → (after : List ℕ) × HasAhead new after × (before ≡ text ++ after)

-- `count` entries are taken: their rows, and the times of the root and of each
pub record TakesRows (wide : Bool) (limits : TreeLimits) (root : Times) (old : Ahead) (rows : List Row)
    (times : List Times) (count : ℕ) (new : Ahead) : Type 0 where
  pub entries : List (Row × Times)
  pub fit : AreEntries wide limits [] entries
  pub count_is : length entries ≡ count
  pub rows_are : rows ≡ rows_in entries
  pub times_are : times ≡ root ∷ times_in entries
  pub taken : TakesText (flat_map entry_text entries) old new

-- the bytes ahead do not start with `count` entries
abbrev pub LacksRows : Bool → TreeLimits → ℕ → Ahead → Type 0
LacksRows wide limits count old = (before : List ℕ) → HasAhead old before → AreNone wide limits count before

-- all entries after a head are taken, and no lower opening holds the file
pub record TakesAll (head : Head) (old : Ahead) (rows : List Row) (times : List Times) (new : Ahead) : Type 0 where
  pub entries : List (Row × Times)
  pub fit : AreEntries (is_wide head.opening) head.limits [] entries
  pub count_is : length entries ≡ head.count
  pub rows_are : rows ≡ rows_in entries
  pub times_are : times ≡ kept (head.root_times ∷ times_in entries)
  pub lowest : IsTrue (is_lowest head.opening head.limits times)
  pub taken : TakesText (flat_map entry_text entries) old new

-- the bytes ahead do not start with entries that may follow the head
abbrev pub LacksAll : Head → Ahead → Type 0
LacksAll head old =
    (before : List ℕ) → HasAhead old before → (entries : List (Row × Times)) (rest : List ℕ)
    → AreEntries (is_wide head.opening) head.limits [] entries → length entries ≡ head.count
    → IsTrue (is_lowest head.opening head.limits (kept (head.root_times ∷ times_in entries)))
    → before ≡ flat_map entry_text entries ++ rest → ⊥

-- the result says this, unless memory ran out or the source failed
abbrev pub GivesUnless : Result TreeFile TreeError → TreeFile → Type 0
GivesUnless result file = MatchResult result (λ f. f ≡ file) (λ error. IsExcuse error)

-- ==== Tree files that are written to a sink: how many of its calls failed.

-- one more call failed if the sink did, and none if memory ran out
abbrev pub CountsError : WriteError → ℕ → ℕ → Type 0
CountsError NoMemory old new = new ≡ old
CountsError Failed old new = new ≡ one_more old

-- one more call of the sink failed if that is the error, and none otherwise
abbrev pub CountsSink : {A : Type 0} → Result A WriteError → ℕ → ℕ → Type 0
CountsSink result old new = MatchResult result (λ _. new ≡ old) (λ error. CountsError error old new)
