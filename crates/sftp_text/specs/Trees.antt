-- Tree files as lines of text: one for the head, one for the root, and one an entry.
use Rattle.std.specs.Prelude.{ℕ, ◌==◌, Bool, true, false, is_some, if◌then◌else◌, List, [], ◌∷◌, ◌++◌, codes}
use Rattle.std.specs.Prelude.{slice_get, Option, Some, None, option_and_then, ◌≡◌, ◌%◌, ◌<◌, ◌≤◌, IfSome, Result, Ok}
use Rattle.std.specs.Prelude.{Err}
use Rattle.sftp_text.specs.Formats.{Step, Format, after, nothing, ◌then◌, word, mark, strip, front_uint32}
use Rattle.sftp_text.specs.Formats.{repeat_to_end}
use Rattle.sftp_text.specs.Digits.{number, octal, long}
use Rattle.sftp_text.specs.Digits.{string_text, long_string_text, byte_of, is_plain}
use Rattle.sftp_text.specs.declared.openings.Opening.{Opening}
use Rattle.sftp_text.specs.declared.openings.Opening.TheVariants.{Usual, Raised, Wide}
use Rattle.sftp_text.specs.declared.trees.entries.Letter.{Letter}
use Rattle.sftp_text.specs.Lines.{whole, said_lines}
use Rattle.std.specs.Int.RustNames.{bit_and, bit_or}
use Rattle.sftp_text.specs.declared.errors.Stop.{Stop}
use Rattle.sftp_text.specs.declared.errors.Stop.TheVariants.{NoMemory, Unfit}
use Rattle.sftp_text.specs.declared.attributes.Value.{Value}
use Rattle.sftp_text.specs.declared.attributes.Value.TheVariants.{Long, TwoNumbers, Octal, Pairs}
use Rattle.sftp_text.specs.Fields.{two_numbers, counted_pairs}

-- a user and a group in decimal, and permissions in octal, each after a space
unfoldable pub owner_text : Format
owner_text = word (codes " ") then number then word (codes " ") then number then word (codes " ") then octal

-- the openings of tree files
abbrev pub opening : Opening → List ℕ
opening Usual = codes "SFTREE01"
opening Raised = codes "SFTREE02"
opening Wide = codes "SFTREE03"

-- the home, the user and the group
abbrev pub front_text : Format
front_text =
    word (codes "home ") then string_text then word (codes " uid ") then number then word (codes " gid ") then number

-- the four limits of the second opening
abbrev pub four_limits : Format
four_limits =
    word (codes " limits ") then number then word (codes " ") then number then word (codes " ") then number
    then word (codes " ") then number

-- the five limits of the third opening
abbrev pub five_limits : Format
five_limits =
    word (codes " limits ") then number then word (codes " ") then long then word (codes " ") then number
    then word (codes " ") then number then word (codes " ") then long

-- the limits that a tree file with this opening has
abbrev pub limits_text : Opening → Format
limits_text Usual = nothing
limits_text Raised = four_limits
limits_text Wide = five_limits

-- and then the number of entries, with the limits before it in a tree file that has them
abbrev pub behind_front : Opening → Format
behind_front begins = limits_text begins then word (codes " entries ") then number

-- the head of a tree file with this opening
abbrev pub head_of : Opening → Format
head_of begins = mark (opening begins) then front_text then behind_front begins

-- whether bytes begin with the opening of a tree file that may have times, and files of any length
abbrev pub begins_wide : List ℕ → Bool
begins_wide bytes = is_some (strip (opening Wide) bytes)

-- the opening that bytes begin with; the first where they begin with none
abbrev pub opening_of : List ℕ → Opening
opening_of bytes =
    if begins_wide bytes then Wide else (if is_some (strip (opening Raised) bytes) then Raised else Usual)

-- the opening by what follows the group in a line: five limits, or limits, or none
abbrev pub opening_by_limits : List ℕ → Opening
opening_by_limits line =
    if is_some (strip (codes " limits ") line)
    then (if is_some (five_limits.read [] line) then Wide else Raised) else Usual

abbrev pub opening_behind : Option (List ℕ × List ℕ) → Opening
opening_behind None = Usual
opening_behind (Some read) = opening_by_limits read.1

-- the opening of the tree file whose head is a line
unfoldable pub opening_named : List ℕ → Opening
opening_named line = opening_behind (front_text.read [] line)

-- the head: the opening, the home, the user, the group, the limits if there are some, and the number of entries
unfoldable pub head_text : Format
head_text = record {
  show = λ text bytes. (head_of (opening_of bytes)).show text bytes;
  read = λ bytes text. (head_of (opening_named text)).read bytes text;
}

-- an owner, and the times behind it if there are some
abbrev pub timed_owner : Bool → Format
timed_owner false = owner_text
timed_owner true = owner_text then word (codes " ") then number then word (codes " ") then number

-- the letter of a root with times or without
abbrev pub letter_of_root : Bool → ℕ
letter_of_root false = 68
letter_of_root true = 100

-- what the line of a root with times or without begins with
abbrev pub word_of_root : Bool → List ℕ
word_of_root false = codes "D \"/\""
word_of_root true = codes "d \"/\""

-- the line of a root with times or without
abbrev pub root_line : Bool → Format
root_line has_times = word (word_of_root has_times) then timed_owner has_times

-- whether the root in front has times, by its letter
abbrev pub is_timed_root : List ℕ → Bool
is_timed_root [] = false
is_timed_root (c ∷ rest) = c == 100

-- the root by its letter, which is in the line and in the bytes
abbrev pub root_with : Bool → Format
root_with has_times = mark (letter_of_root has_times ∷ []) then root_line has_times

-- the root of a tree file after the third opening
abbrev pub lettered_root : Format
lettered_root = record {
  show = λ text bytes. (root_with (is_timed_root bytes)).show text bytes;
  read = λ bytes text. (root_with (is_timed_root text)).read bytes text;
}

-- the root, which has its letter and may have times after the third opening alone
unfoldable pub root_text : Bool → Format
root_text false = root_line false
root_text true = lettered_root

-- what a letter says of the entry of a directory or of a file; small letters and `G` only after the third opening
abbrev pub letter_made : Bool → Bool → Bool → Letter
letter_made is_file has_times is_long = record { is_file = is_file; has_times = has_times; is_long = is_long }

abbrev pub wide_letter : Bool → Letter → Option Letter
wide_letter wide letter = if wide then Some letter else None

unfoldable pub letter_of : Bool → ℕ → Option Letter
letter_of wide kind =
    if kind == 68 then Some (letter_made false false false)
    else (if kind == 70 then Some (letter_made true false false)
    else (if kind == 100 then wide_letter wide (letter_made false true false)
    else (if kind == 102 then wide_letter wide (letter_made true true false)
    else (if kind == 71 then wide_letter wide (letter_made true false true)
    else (if kind == 103 then wide_letter wide (letter_made true true true) else None)))))

-- the bytes of a file
abbrev pub content_text : Bool → Format
content_text false = string_text
content_text true = long_string_text

abbrev pub with_content : Bool → Bool → Format → Format
with_content false is_long owner = owner
with_content true is_long owner = owner then word (codes " ") then content_text is_long

-- what the entry of a directory or of a file says after its path: its owner, its times, and its bytes
abbrev pub owned_text : Letter → Format
owned_text letter = with_content letter.is_file letter.is_long (timed_owner letter.has_times)

abbrev pub other_text : ℕ → Option Letter → Option Format
other_text kind (Some letter) = Some (owned_text letter)
other_text kind None =
    if kind == 72 then Some (word (codes " ") then number)
    else (if kind == 76 then Some (word (codes " ") then string_text) else None)

-- what an entry of a kind says after its path: a directory its owner, the first name of a file its owner and the bytes,
-- a further name the entry of the first, a link its target
unfoldable pub kind_text : Bool → ℕ → Option Format
kind_text wide kind = other_text kind (letter_of wide kind)

-- an entry of a kind: its letter is first in the line, and behind the path in the bytes
abbrev pub entry_of : ℕ → Format → Format
entry_of kind fields = word (kind ∷ codes " ") then string_text then mark (kind ∷ []) then fields

abbrev pub first_of : List ℕ → Option ℕ
first_of [] = None
first_of (c ∷ list) = Some c

-- the letter behind the string in front
unfoldable pub kind_behind : List ℕ → Option ℕ
kind_behind bytes = option_and_then (λ front. slice_get front.1 front.0) (front_uint32 bytes)

-- an entry of a kind is shown
abbrev pub show_kind : Bool → List ℕ → List ℕ → ℕ → Option (List ℕ × List ℕ)
show_kind wide text bytes kind =
    option_and_then (λ fields. (entry_of kind fields).show text bytes) (kind_text wide kind)

-- an entry of a kind is read
abbrev pub read_kind : Bool → List ℕ → List ℕ → ℕ → Option (List ℕ × List ℕ)
read_kind wide bytes text kind =
    option_and_then (λ fields. (entry_of kind fields).read bytes text) (kind_text wide kind)

-- an entry
unfoldable pub entry_text : Bool → Format
entry_text wide = record {
  show = λ text bytes. option_and_then (show_kind wide text bytes) (kind_behind bytes);
  read = λ bytes text. option_and_then (read_kind wide bytes text) (first_of text);
}

-- ---- tree files

-- an entry and a line feed
abbrev pub entry_line : Bool → Format
entry_line wide = entry_text wide then word (10 ∷ [])

-- the head and the root, each with a line feed
abbrev pub first_lines : Bool → Format
first_lines wide = head_text then word (10 ∷ []) then root_text wide then word (10 ∷ [])

-- the lines of a tree file are shown: that of the head, that of the root, and those of entries as long as bytes are
-- left
unfoldable pub show_tree : Step
show_tree text bytes =
    after (first_lines (begins_wide bytes)).show (repeat_to_end (entry_line (begins_wide bytes)).show) text bytes

-- the bytes of a whole line, in front of others
abbrev pub bytes_and : Format → List ℕ → Option (List ℕ) → Option (List ℕ)
bytes_and format line others =
    option_and_then (λ bytes. option_and_then (λ more. Some (bytes ++ more)) others) (whole (format.read [] line))

-- the bytes of lines of entries
abbrev pub entries_read : Bool → List (List ℕ) → Option (List ℕ)
entries_read wide [] = Some []
entries_read wide (line ∷ lines) = bytes_and (entry_text wide) line (entries_read wide lines)

-- whether the bytes of a head begin with the third opening
abbrev pub head_is_wide : Option (List ℕ) → Bool
head_is_wide None = false
head_is_wide (Some bytes) = begins_wide bytes

-- the bytes of the lines of a root and entries
abbrev pub root_and_lines : Bool → List ℕ → List (List ℕ) → Option (List ℕ)
root_and_lines wide root lines = bytes_and (root_text wide) root (entries_read wide lines)

-- the bytes of the lines of a head, a root and entries
abbrev pub tree_of_lines : List (List ℕ) → Option (List ℕ)
tree_of_lines [] = None
tree_of_lines (head ∷ []) = None
tree_of_lines (head ∷ root ∷ lines) =
    bytes_and head_text head (root_and_lines (head_is_wide (whole (head_text.read [] head))) root lines)

-- the tree file of a text
unfoldable pub tree_read : List ℕ → Option (List ℕ)
tree_read text = tree_of_lines (said_lines [] text)

-- ==== What the code does, beside the steps of the formats.

-- what is done and what is left are as the step says, unless memory runs out
abbrev pub Moves : {A : Type 0} → Result A Stop → List ℕ → List ℕ → Option (List ℕ × List ℕ) → Type 0
Moves (Ok x) done left step = step ≡ Some (done, left)
Moves (Err NoMemory) done left step = Unit {0}
Moves (Err (Unfit expected)) done left step = step ≡ None

-- what is left is as found, unless memory runs out
abbrev pub MovesOver : {A : Type 0} → Result A Stop → List ℕ → Option (List ℕ) → Type 0
MovesOver (Ok x) left found = found ≡ Some left
MovesOver (Err NoMemory) left found = Unit {0}
MovesOver (Err (Unfit expected)) left found = found ≡ None

-- whether a label was in front: what is left follows it, or is what was there
abbrev pub IsStripped : Bool → List ℕ → List ℕ → Option (List ℕ) → Type 0
IsStripped true before left found = found ≡ Some left
IsStripped false before left found = (found ≡ None) × (left ≡ before)

-- the number in front and what is left are as found; there is none, or a greater one, where the code stops
abbrev pub FindsUpTo : ℕ → Result ℕ Stop → List ℕ → Option (ℕ × List ℕ) → Type 0
FindsUpTo most (Ok n) left found = (found ≡ Some (n, left)) × (n ≤ most)
FindsUpTo most (Err NoMemory) left found = Unit {0}
FindsUpTo most (Err (Unfit expected)) left found = IfSome found (λ f. most < f.0)

-- what is done is as told, unless memory runs out
abbrev pub Makes : {A : Type 0} → Result A Stop → List ℕ → Option (List ℕ) → Type 0
Makes (Ok x) done made = made ≡ Some done
Makes (Err NoMemory) done made = Unit {0}
Makes (Err (Unfit expected)) done made = made ≡ None

-- the byte of two hexadecimal digits in front, and what follows them
abbrev pub octet_in : List ℕ → Option (ℕ × List ℕ)
octet_in [] = None
octet_in (high ∷ []) = None
octet_in (high ∷ low ∷ rest) = option_and_then (λ b. Some (b, rest)) (byte_of high low)

-- the byte of what follows `\` in quotes
abbrev pub escape_in : List ℕ → Option (ℕ × List ℕ)
escape_in [] = None
escape_in (c ∷ rest) = if c == 120 then octet_in rest else None

-- the byte of the character in front, in quotes
abbrev pub character_in : List ℕ → Option (ℕ × List ℕ)
character_in [] = None
character_in (c ∷ rest) = if c == 92 then escape_in rest else (if is_plain c then Some (c, rest) else None)

-- the number, what is done and what is left are as found, unless memory runs out
abbrev pub Counts : Result ℕ Stop → List ℕ → List ℕ → Option (ℕ × (List ℕ × List ℕ)) → Type 0
Counts (Ok n) done left found = found ≡ Some (n, (done, left))
Counts (Err NoMemory) done left found = Unit {0}
Counts (Err (Unfit expected)) done left found = found ≡ None

-- what stands in front and what is left are as found, unless memory runs out
abbrev pub Finds : {A : Type 0} → Result A Stop → List ℕ → Option (A × List ℕ) → Type 0
Finds (Ok x) left found = found ≡ Some (x, left)
Finds (Err NoMemory) left found = Unit {0}
Finds (Err (Unfit expected)) left found = found ≡ None

-- the name of a flag if it is set, behind `|` if a lower flag is set
abbrev pub flag_part : ℕ → ℕ × List ℕ → List ℕ
flag_part n flag = if bit_and n flag.0 == 0 then [] else (if n % flag.0 == 0 then flag.1 else 124 ∷ flag.1)

-- READ, WRITE and APPEND
abbrev pub lower_flags : ℕ → List ℕ
lower_flags n =
    flag_part n (0x1, codes "READ") ++ (flag_part n (0x2, codes "WRITE") ++ flag_part n (0x4, codes "APPEND"))

-- CREAT, TRUNC and EXCL
abbrev pub higher_flags : ℕ → List ℕ
higher_flags n =
    flag_part n (0x8, codes "CREAT") ++ (flag_part n (0x10, codes "TRUNC") ++ flag_part n (0x20, codes "EXCL"))

-- the flags with one more, unless that is set
abbrev pub added : ℕ → ℕ → Option ℕ
added flags flag = if bit_and flags flag == 0 then Some (bit_or flags flag) else None

-- the kind of an entry is as found; there is none where the code stops
abbrev pub FindsKind : Result ℕ Stop → Option ℕ → Type 0
FindsKind (Ok kind) found = found ≡ Some kind
FindsKind (Err NoMemory) found = Unit {0}
FindsKind (Err (Unfit expected)) found = found ≡ None

-- the opening is as told, unless memory runs out
abbrev pub TellsOpening : Result Opening Stop → Opening → Type 0
TellsOpening (Ok is) told = told ≡ is
TellsOpening (Err NoMemory) told = Unit {0}
TellsOpening (Err (Unfit expected)) told = ⊥

-- what an attribute says behind its label
abbrev pub value_text : Value → Format
value_text Long = long
value_text TwoNumbers = two_numbers
value_text Octal = octal
value_text Pairs = counted_pairs

-- the fields, if there are some
abbrev pub behind : Option Format → Format
behind fields = record {
  show = λ text bytes. option_and_then (λ f. f.show text bytes) fields;
  read = λ bytes text. option_and_then (λ f. f.read bytes text) fields;
}

-- what an entry of a kind says behind its path
abbrev pub behind_path : Bool → ℕ → Format
behind_path wide kind = behind (kind_text wide kind)
