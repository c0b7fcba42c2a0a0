-- The fields of packets (draft-ietf-secsh-filexfer-02, sections 3 to 7).
use Rattle.std.specs.Prelude.{ℕ, ◌+◌, if◌then◌else◌, List, [], ◌∷◌, ◌++◌, codes, Option, Some, None, option_and_then}
use Rattle.std.specs.Prelude.{replicate, ◌==◌, Bool, true, false, drop, bytes_eq, find}
use Rattle.sftp_packets.specs.declared.layouts.FieldKind.{FieldKind}
use Rattle.sftp_packets.specs.declared.layouts.FieldKind.TheVariants.{Number, LongNumber, Flags, Text, Handle}
use Rattle.sftp_packets.specs.declared.layouts.Tail.{Tail}
use Rattle.sftp_packets.specs.declared.layouts.Tail.TheVariants.{Nothing, Attributes, Pairs, Items, Message, Rest}
use Rattle.sftp_packets.specs.Reading.{has_flag, are_known}
use Rattle.sftp_text.specs.Formats.{Step, Format, Counted, stay, after, nothing, ◌then◌, strip, word, ahead, if_found}
use Rattle.sftp_text.specs.Formats.{if_any, listed, to_end, mark}
use Rattle.sftp_text.specs.Digits.{number, long, octal, flags, is_digit}
use Rattle.sftp_text.specs.Digits.{string_text, rest_text}
use Rattle.sftp_packets.specs.declared.packets.Side.{Side}
use Rattle.sftp_packets.specs.Layouts.{Shape, shapes}

-- ---- lists

-- two numbers with a comma between
unfoldable pub two_numbers : Format
two_numbers = number then word (codes ",") then number

-- a name and its data
unfoldable pub pair : Format
pair = string_text then word (codes "=") then string_text

-- pairs up to the end, each after a space
unfoldable pub pairs : Format
pairs = to_end pair (codes " ")

-- pairs behind their count, with a comma between
unfoldable pub counted_pairs : Format
counted_pairs = ahead (listed pair 34 (codes ","))

-- ---- attributes

-- an attribute: its flag, its label and its format
pub record Part : Type 0 where
  pub flag : ℕ
  pub label : List ℕ
  pub format : Format

abbrev pub part : ℕ → List ℕ → Format → Part
part flag label format = record { flag = flag; label = label; format = format }

-- those behind size and owner
abbrev pub later_parts : List Part
later_parts =
    part 0x00000004 (codes " permissions=") octal
    ∷ part 0x00000008 (codes " times=") two_numbers
    ∷ part 0x80000000 (codes " extended=") counted_pairs
    ∷ []

unfoldable pub attribute_parts : List Part
attribute_parts =
    part 0x00000001 (codes " size=") long ∷ part 0x00000002 (codes " owner=") two_numbers ∷ later_parts

-- an attribute with its label, if its flag is set
abbrev pub show_part : Part → ℕ → Step
show_part p present = if has_flag present p.flag then (word p.label then p.format).show else stay

-- an attribute, if its label is in front, with its flag or 0
abbrev pub read_part : Part → List ℕ → List ℕ → Option (ℕ × (List ℕ × List ℕ))
read_part p bytes text =
    if_found (strip p.label text)
    (λ rest. option_and_then (λ moved. Some (p.flag, moved)) (p.format.read bytes rest))
    (Some (0, (bytes, text)))

-- those attributes whose flags are set, in their order
abbrev pub show_parts : List Part → ℕ → Step
show_parts [] present = stay
show_parts (p ∷ parts) present = after (show_part p present) (show_parts parts present)

-- a flag added to those found behind it
abbrev pub and_flag : ℕ → Option (ℕ × (List ℕ × List ℕ)) → Option (ℕ × (List ℕ × List ℕ))
and_flag flag found = option_and_then (λ f. Some (flag + f.0, f.1)) found

-- those attributes whose labels stand in front, in their order, with the sum of their flags
abbrev pub read_parts : List Part → List ℕ → List ℕ → Option (ℕ × (List ℕ × List ℕ))
read_parts [] bytes text = Some (0, (bytes, text))
read_parts (p ∷ parts) bytes text =
    option_and_then (λ found. and_flag found.0 (read_parts parts found.1.0 found.1.1)) (read_part p bytes text)

-- attributes with known flags
abbrev pub known_parts : Counted
known_parts = record {
  show = λ present. if are_known present then show_parts attribute_parts present else (λ text bytes. None);
  read = read_parts attribute_parts [];
}

-- attributes behind their flags
unfoldable pub attributes : Format
attributes = ahead known_parts

-- ---- names of a directory

-- a name: its text, the long text and the attributes
unfoldable pub name_item : Format
name_item = word (codes " ") then string_text then word (codes " ") then string_text then attributes

-- names behind their count
unfoldable pub names : Format
names = ahead (listed name_item 32 (codes ";"))

-- ---- a message

-- two empty strings
abbrev pub no_message : List ℕ
no_message = replicate 8 0

-- a message and its language
abbrev pub two_texts : Format
two_texts = word (codes " ") then string_text then word (codes " ") then string_text

-- a message and its language, which are not shown where both are empty
unfoldable pub message : Format
message = record {
  show = λ text bytes. if_found (strip no_message bytes) (λ rest. Some (text, rest)) (two_texts.show text bytes);
  read = λ bytes text. if_any text (two_texts.read bytes text) (Some (bytes ++ no_message, text));
}

-- ---- the fields of a layout

unfoldable pub field_text : FieldKind → Format
field_text Number = number
field_text LongNumber = long
field_text Flags = flags
field_text Text = string_text
field_text Handle = string_text

unfoldable pub tail_text : Tail → Format
tail_text Nothing = nothing
tail_text Attributes = attributes
tail_text Pairs = pairs
tail_text Items = names
tail_text Message = message
tail_text Rest = word (codes " ") then rest_text

-- fields, each after a space, and then what comes after them
abbrev pub fields_text : List FieldKind → Format
fields_text [] = nothing
fields_text (field ∷ fields) = (word (codes " ") then field_text field) then fields_text fields

-- ==== The text of a packet by its layout (sftp_packets/specs/Layouts.antt), and the layout of a line by the name in
-- it.

-- the id, if there is one
abbrev pub id_text : Bool → Format
id_text true = word (codes " ") then number
id_text false = nothing

-- a packet's body as text: the id, the name, the fields and what comes after them
abbrev pub body_text : Shape → Format
body_text s =
    id_text s.has_id then word (32 ∷ s.name) then mark s.mark then fields_text s.fields then tail_text s.tail

-- a packet after its length: its type and its body
abbrev pub packet_text : Shape → Format
packet_text s = mark (s.kind ∷ []) then body_text s

-- the characters up to a space or the end
abbrev pub up_to_space : List ℕ → List ℕ
up_to_space [] = []
up_to_space (c ∷ text) = if c == 32 then [] else c ∷ up_to_space text

-- what follows the first space, or nothing
abbrev pub behind_space : List ℕ → List ℕ
behind_space [] = []
behind_space (c ∷ text) = if c == 32 then text else behind_space text

-- the name of a line after its side and a space: behind a number if a digit comes first
abbrev pub name_in : List ℕ → List ℕ
name_in [] = []
name_in (c ∷ text) = if is_digit 10 c then up_to_space (behind_space (c ∷ text)) else up_to_space (c ∷ text)

-- the layout of a line after its side, by the name in it
unfoldable pub layout_of_text : Side → List ℕ → Option Shape
layout_of_text side text = find (λ s. bytes_eq s.name (name_in (drop 1 text))) (shapes side)
