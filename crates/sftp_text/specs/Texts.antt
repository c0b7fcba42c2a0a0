-- Texts of several lines: how they are cut into lines, and what the code that reads them does.
use Rattle.std.specs.Prelude.{◌≡◌, ◌==◌, ℕ, List, [], length, if◌then◌else◌, Option, Some, None, Result, Ok, Err}
use Rattle.std.specs.Prelude.{option_and_then, ◌∷◌, ◌++◌, take, drop, flat_map}
use Rattle.sftp_packets.specs.declared.packets.Side.{Side}
use Rattle.sftp_text.specs.declared.errors.Stop.{Stop}
use Rattle.sftp_text.specs.declared.errors.Stop.TheVariants as stops
use Rattle.sftp_text.specs.declared.errors.Fault.{Fault}
use Rattle.sftp_text.specs.declared.errors.Fault.TheVariants as faults
use Rattle.sftp_text.specs.declared.errors.ShowFault.{ShowFault}
use Rattle.sftp_text.specs.declared.errors.ShowFault.TheVariants as shows
use Rattle.sftp_text.specs.Formats.{Format, front_uint32}
use Rattle.sftp_text.specs.Lines.{whole, line_of, side_of_letter, record_length, text_of, line_read, side_letter}
use Rattle.sftp_text.specs.Lines.{is_blank, transcript_of}
use Rattle.sftp_text.specs.declared.errors.TextFault.{TextFault}
use Rattle.sftp_text.specs.declared.errors.TextFault.TheVariants as texts
use Rattle.sftp_text.specs.declared.due.Due.{Due}
use Rattle.sftp_text.specs.declared.due.Due.TheVariants as dues
use Rattle.sftp_text.specs.Trees.{head_text, root_text, entry_text, entries_read, tree_of_lines, begins_wide}
use Rattle.sftp_text.specs.Trees.{root_and_lines}

-- ==== What the code of records returns, beside the definitions of lines.

-- what is done with the text of a packet in a format, if its length is right
abbrev pub show_with : Format → List ℕ → List ℕ → Option (List ℕ)
show_with format text bytes =
    option_and_then
    (λ front. if front.0 == length front.1 then whole (format.show text front.1) else None)
    (front_uint32 bytes)

-- the side and the bytes are as read, unless memory runs out
abbrev pub ReadsLine : Result Side Stop → List ℕ → Option (Side × List ℕ) → Type 0
ReadsLine (Ok side) bytes read = read ≡ Some (side, bytes)
ReadsLine (Err stops.NoMemory) bytes read = Unit {0}
ReadsLine (Err (stops.Unfit expected)) bytes read = read ≡ None

-- the record is as read, unless memory runs out
abbrev pub GivesRecord : Result Side Fault → List ℕ → Option (Side × List ℕ) → Type 0
GivesRecord (Ok side) bytes read = read ≡ Some (side, bytes)
GivesRecord (Err faults.NoMemory) bytes read = Unit {0}
GivesRecord (Err (faults.Unread column expected)) bytes read = read ≡ None

-- why a file has no text where a step stops
abbrev pub show_fault : Stop → ShowFault
show_fault stops.NoMemory = shows.NoMemory
show_fault (stops.Unfit expected) = shows.Unfit

-- what is done and what is left are as the step says, unless memory runs out
abbrev pub ShowsAs : Result (Unit {0}) ShowFault → List ℕ → List ℕ → Option (List ℕ × List ℕ) → Type 0
ShowsAs (Ok x) done left step = step ≡ Some (done, left)
ShowsAs (Err shows.NoMemory) done left step = Unit {0}
ShowsAs (Err shows.Unfit) done left step = step ≡ None

-- the bytes are as read from a whole line, unless memory runs out
abbrev pub ReadsAs : Result (Unit {0}) Fault → List ℕ → Option (List ℕ × List ℕ) → Type 0
ReadsAs (Ok x) bytes step = step ≡ Some (bytes, [])
ReadsAs (Err faults.NoMemory) bytes step = Unit {0}
ReadsAs (Err (faults.Unread column expected)) bytes step = whole step ≡ None

-- what is done is as the step says, which leaves nothing, unless memory runs out
abbrev pub ShowsWhole : Result (Unit {0}) ShowFault → List ℕ → Option (List ℕ × List ℕ) → Type 0
ShowsWhole (Ok x) done step = step ≡ Some (done, [])
ShowsWhole (Err shows.NoMemory) done step = Unit {0}
ShowsWhole (Err shows.Unfit) done step = whole step ≡ None

-- ==== Where a line stops being one.

-- the fault of a line says what was expected, and is want of memory where that was so
abbrev pub IsFaultOf : Stop → Fault → Type 0
IsFaultOf stops.NoMemory fault = fault ≡ faults.NoMemory
IsFaultOf (stops.Unfit expected) fault = (column : ℕ) × (fault ≡ faults.Unread column expected)

-- the fault of a text is that of its line of this number
abbrev pub IsInLine : Fault → ℕ → TextFault → Type 0
IsInLine faults.NoMemory line fault = fault ≡ texts.NoMemory
IsInLine (faults.Unread column expected) line fault = fault ≡ texts.Unread line column expected

-- ==== What the code of whole files does, beside their definitions.

-- the text is as shown, unless memory runs out
abbrev pub Shows : {A : Type 0} → Result A ShowFault → List ℕ → Option (List ℕ) → Type 0
Shows (Ok x) text shown = shown ≡ Some text
Shows (Err shows.NoMemory) text shown = Unit {0}
Shows (Err shows.Unfit) text shown = shown ≡ None

-- a text, and the lines of records
abbrev pub lines_onto : List ℕ → Option (List (Side × List ℕ)) → Option (List ℕ)
lines_onto text records = option_and_then (λ rs. Some (text ++ text_of rs)) records

-- the record of a side in front of bytes, and what follows it
abbrev pub behind_side : List ℕ → Side → Option ((Side × List ℕ) × List ℕ)
behind_side bytes side = Some ((side, take (record_length bytes) bytes), drop (record_length bytes) bytes)

-- the record in front of a transcript's bytes, and what follows it
abbrev pub next_record : List ℕ → Option ((Side × List ℕ) × List ℕ)
next_record [] = None
next_record (c ∷ bytes) = option_and_then (behind_side bytes) (side_of_letter c)

-- the line of a record, with its line feed
abbrev pub fed_line : Side → List ℕ → List ℕ
fed_line side packet = line_of side packet ++ 10 ∷ []

-- ---- lines

-- the part of a text up to its first line feed, or to its end
abbrev pub first_line : List ℕ → List ℕ
first_line [] = []
first_line (c ∷ text) = if c == 10 then [] else c ∷ first_line text

-- what follows its first line feed
abbrev pub behind_line : List ℕ → List ℕ
behind_line [] = []
behind_line (c ∷ text) = if c == 10 then text else behind_line text

-- ---- what is read

-- the bytes are as told, unless memory runs out
abbrev pub GivesText : {A : Type 0} → Result A TextFault → List ℕ → Option (List ℕ) → Type 0
GivesText (Ok x) bytes told = told ≡ Some bytes
GivesText (Err texts.NoMemory) bytes told = Unit {0}
GivesText (Err (texts.Unread line column expected)) bytes told = told ≡ None

-- the same of a line
abbrev pub GivesLine : {A : Type 0} → Result A Fault → List ℕ → Option (List ℕ) → Type 0
GivesLine (Ok x) bytes told = told ≡ Some bytes
GivesLine (Err faults.NoMemory) bytes told = Unit {0}
GivesLine (Err (faults.Unread column expected)) bytes told = told ≡ None

-- bytes, and more behind them
abbrev pub onto : List ℕ → Option (List ℕ) → Option (List ℕ)
onto bytes more = option_and_then (λ m. Some (bytes ++ m)) more

-- ---- transcripts

-- the bytes of a line: those of its record, or none where it says nothing
abbrev pub line_bytes : List ℕ → Option (List ℕ)
line_bytes line =
    if is_blank line then Some [] else option_and_then (λ r. Some (side_letter r.0 ∷ r.1)) (line_read line)

-- bytes, and those of records behind them
abbrev pub records_onto : List ℕ → Option (List (Side × List ℕ)) → Option (List ℕ)
records_onto bytes records = option_and_then (λ rs. Some (bytes ++ flat_map (λ r. side_letter r.0 ∷ r.1) rs)) records

-- bytes, and the transcript file of records behind them
abbrev pub transcript_onto : List ℕ → Option (List (Side × List ℕ)) → Option (List ℕ)
transcript_onto bytes records = option_and_then (λ rs. Some (bytes ++ transcript_of rs)) records

-- ---- tree files

-- the form of the line that is due
abbrev pub form_of : Due → Format
form_of dues.Head = head_text
form_of (dues.Root wide) = root_text wide
form_of (dues.Entry wide) = entry_text wide

-- which line is due after it
abbrev pub due_after : Due → List ℕ → Due
due_after dues.Head bytes = dues.Root (begins_wide bytes)
due_after (dues.Root wide) bytes = dues.Entry wide
due_after (dues.Entry wide) bytes = dues.Entry wide

-- the bytes of the lines that say something, from the one that is due on
abbrev pub lines_from : Due → List (List ℕ) → Option (List ℕ)
lines_from dues.Head lines = tree_of_lines lines
lines_from (dues.Root wide) [] = None
lines_from (dues.Root wide) (root ∷ lines) = root_and_lines wide root lines
lines_from (dues.Entry wide) lines = entries_read wide lines
