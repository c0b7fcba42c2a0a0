-- Files of times: how they are spelled, and what bytes are read as. This profile's own.
use Rattle.std.specs.Prelude.{◌≡◌, nat_lt, bytes_eq, ℕ, zero, suc, ◌<◌, ◌≤◌, ◌^◌, if◌then◌else◌, Option, Some, None}
use Rattle.std.specs.Prelude.{List, [], ◌∷◌, ◌++◌, length, take, drop, codes, Result, Ok, Err}
use Rattle.std.specs.Int.{w64, to_be_bytes, from_be_bytes}
use Rattle.std.specs.List.{flat_map}
use Rattle.sftp_times.specs.declared.errors.TimesError.{TimesError}
use Rattle.sftp_times.specs.declared.errors.TimesError.TheVariants.{Magic, Short, Order, NoMemory}
use Rattle.sftp_times.specs.declared.entries.Boot.{Boot}
use Rattle.sftp_times.specs.declared.entries.Beginning.{Beginning}
use Rattle.sftp_times.specs.declared.files.Times.{Times}

-- ---- as bytes

-- of the first form
abbrev pub opening : List ℕ
opening = codes "SFTPTM01"

-- of the second form, which says when the session started on the clock of a boot
abbrev pub boot_opening : List ℕ
boot_opening = codes "SFTPTM02"

-- what comes before the entries
abbrev pub dated : ℕ → List ℕ
dated date = opening ++ to_be_bytes w64 date

abbrev pub booted : ℕ → Boot → List ℕ
booted date boot =
    boot_opening
    ++ (to_be_bytes w64 boot.high
    ++ (to_be_bytes w64 boot.low ++ (to_be_bytes w64 date ++ to_be_bytes w64 boot.zero)))

abbrev pub begun : ℕ → Option Boot → List ℕ
begun date None = dated date
begun date (Some boot) = booted date boot

abbrev pub beginning : Beginning → List ℕ
beginning first = begun first.date first.boot

-- each number in it has its eight bytes
abbrev pub FitsBoot : Option Boot → Type 0
FitsBoot None = Unit {0}
FitsBoot (Some boot) = boot.high < 2 ^ 64 × boot.low < 2 ^ 64 × boot.zero < 2 ^ 64

abbrev pub Fits : Beginning → Type 0
Fits first = first.date < 2 ^ 64 × FitsBoot first.boot

-- an entry for each time
abbrev pub entries_text : List ℕ → List ℕ
entries_text times = flat_map (to_be_bytes w64) times

-- the bytes of a file
abbrev pub spelled : Beginning → List ℕ → List ℕ
spelled first times = beginning first ++ entries_text times

-- no time is less than the one before it
abbrev pub Rises : ℕ → List ℕ → Type 0
Rises last [] = Unit {0}
Rises last (time ∷ times) = last ≤ time × Rises time times

-- ---- as it is read

-- how many bytes come before the entries
abbrev pub beginning_length : List ℕ → ℕ
beginning_length bytes = if bytes_eq (take 8 bytes) boot_opening then 40 else 16

-- the number that is in front, from a place on
abbrev pub number_from : ℕ → List ℕ → ℕ
number_from place bytes = from_be_bytes w64 (take 8 (drop place bytes))

-- what follows the opening of each form
abbrev pub dated_at : List ℕ → Result Beginning TimesError
dated_at bytes =
    if nat_lt (length bytes) 8 then Err Magic
    else Ok (record { date = number_from 0 bytes; boot = None })

abbrev pub booted_at : List ℕ → Result Beginning TimesError
booted_at bytes =
    if nat_lt (length bytes) 32 then Err Magic
    else Ok (record {
      date = number_from 16 bytes;
      boot = Some (record {
        high = number_from 0 bytes;
        low = number_from 8 bytes;
        zero = number_from 24 bytes;
      });
    })

-- what is in front of the entries
abbrev pub beginning_at : List ℕ → Result Beginning TimesError
beginning_at bytes =
    if bytes_eq (take 8 bytes) opening then dated_at (drop 8 bytes)
    else (if bytes_eq (take 8 bytes) boot_opening then booted_at (drop 8 bytes) else Err Magic)

-- a time behind another, as the entry with this number
abbrev pub timely : ℕ → ℕ → ℕ → Result ℕ TimesError
timely number last time = if nat_lt time last then Err (Order number) else Ok time

-- the entry with this number that is in front
abbrev pub entry_at : ℕ → ℕ → List ℕ → Result ℕ TimesError
entry_at number last bytes =
    if nat_lt (length bytes) 8 then Err (Short number) else timely number last (from_be_bytes w64 (take 8 bytes))

-- times in front of those that are read
abbrev pub prepend : List ℕ → Result (List ℕ) TimesError → Result (List ℕ) TimesError
prepend times (Ok more) = Ok (times ++ more)
prepend times (Err error) = Err error

-- an entry, and the entries behind it, which depend on its time
abbrev pub followed : Result ℕ TimesError → (ℕ → Result (List ℕ) TimesError) → Result (List ℕ) TimesError
followed (Ok time) more = prepend (time ∷ []) (more time)
followed (Err error) more = Err error

-- all entries, from the one with this number on; the first number bounds how many there are
abbrev pub entries_within : ℕ → ℕ → ℕ → List ℕ → Result (List ℕ) TimesError
entries_within most number last [] = Ok []
entries_within zero number last (byte ∷ bytes) = Ok []
entries_within (suc most) number last (byte ∷ bytes) =
    followed (entry_at number last (byte ∷ bytes))
    (λ time. entries_within most (suc number) time (drop 8 (byte ∷ bytes)))

-- all entries, from the one with this number on, behind one with this time
unfoldable pub entries_in : ℕ → ℕ → List ℕ → Result (List ℕ) TimesError
entries_in number last bytes = entries_within (length bytes) number last bytes

-- a beginning, and then times
abbrev pub followed_by : Result Beginning TimesError → Result (List ℕ) TimesError
    → Result (Beginning × List ℕ) TimesError
followed_by (Ok first) (Ok times) = Ok (first, times)
followed_by (Ok first) (Err error) = Err error
followed_by (Err error) times = Err error

-- the beginning and the times of a file, or its first fault
abbrev pub times_at : List ℕ → Result (Beginning × List ℕ) TimesError
times_at bytes = followed_by (beginning_at bytes) (entries_in 1 0 (drop (beginning_length bytes) bytes))

-- ---- what the code gives, unless memory runs out

abbrev pub Gives : Result (Unit {0}) TimesError → List ℕ → Result (List ℕ) TimesError → Type 0
Gives (Ok done) times read = read ≡ Ok times
Gives (Err NoMemory) times read = Unit {0}
Gives (Err Magic) times read = read ≡ Err Magic
Gives (Err (Short number)) times read = read ≡ Err (Short number)
Gives (Err (Order number)) times read = read ≡ Err (Order number)

abbrev pub GivesTimes : Result Times TimesError → Result (Beginning × List ℕ) TimesError → Type 0
GivesTimes (Ok times) read = read ≡ Ok (times.beginning, times.entries.items)
GivesTimes (Err NoMemory) read = Unit {0}
GivesTimes (Err Magic) read = read ≡ Err Magic
GivesTimes (Err (Short number)) read = read ≡ Err (Short number)
GivesTimes (Err (Order number)) read = read ≡ Err (Order number)
