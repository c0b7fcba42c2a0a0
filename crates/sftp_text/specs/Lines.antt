-- Records and sessions as lines of text.
use Rattle.std.specs.Prelude.{ℕ, zero, suc, min, ◌+◌, ◌^◌, ◌==◌, ◌&&◌, nat_lt, nat_le, Bool, true, if◌then◌else◌}
use Rattle.std.specs.Prelude.{List, [], ◌∷◌, ◌++◌, length, take, drop, codes, flat_map}
use Rattle.std.specs.Prelude.{Option, Some, None, option_and_then}
use Rattle.std.specs.Int.{w32, to_be_bytes}
use Rattle.sftp_packets.specs.declared.packets.Side.{Side}
use Rattle.sftp_packets.specs.declared.packets.Side.TheVariants.{Client, Server}
use Rattle.sftp_packets.specs.Layouts.{Shape, layout_of_bytes}
use Rattle.sftp_text.specs.Formats.{Format, if_found, if_any, strip, front_uint32}
use Rattle.sftp_text.specs.Digits.{hex_text, hex_onto}
use Rattle.sftp_text.specs.Fields.{packet_text, layout_of_text}

-- what is done, where nothing is left
abbrev pub whole : Option (List ℕ × List ℕ) → Option (List ℕ)
whole moved = option_and_then (λ m. if_any m.1 None (Some m.0)) moved

-- whether a character is printable ASCII
abbrev pub is_printable : ℕ → Bool
is_printable c = nat_le 32 c && nat_le c 126

-- ---- any bytes in hexadecimal

-- bytes in hexadecimal behind a space, if there are any
abbrev pub digits_text : List ℕ → List ℕ
digits_text bytes = if_any bytes (32 ∷ hex_text bytes) []

abbrev pub raw_text : List ℕ → List ℕ
raw_text bytes = codes " raw" ++ digits_text bytes

abbrev pub digits_read : List ℕ → Option (List ℕ)
digits_read [] = Some []
digits_read (c ∷ digits) = if c == 32 then hex_onto [] digits else None

abbrev pub raw_read : List ℕ → Option (List ℕ)
raw_read text = option_and_then digits_read (strip (codes " raw") text)

-- ---- records

abbrev pub side_letter : Side → ℕ
side_letter Client = 67
side_letter Server = 83

-- the line of bytes after their length, by a format that has to take them all
abbrev pub show_whole : Side → Format → List ℕ → Option (List ℕ)
show_whole side format bytes = whole (format.show (side_letter side ∷ []) bytes)

-- the line of a packet with this layout, if its length is right
abbrev pub show_packet : Side → List ℕ → Shape → Option (List ℕ)
show_packet side bytes layout =
    option_and_then
    (λ front. if front.0 == length front.1 then show_whole side (packet_text layout) front.1 else None)
    (front_uint32 bytes)

-- the line of a record by its layout, if it has one
unfoldable pub named_line : Side → List ℕ → Option (List ℕ)
named_line side bytes = option_and_then (show_packet side bytes) (layout_of_bytes side bytes)

-- The line of a record, without a line feed: `C` or `S`, and then its packet by name, or any bytes in hexadecimal.
unfoldable pub line_of : Side → List ℕ → List ℕ
line_of side bytes = if_found (named_line side bytes) (λ line. line) (side_letter side ∷ raw_text bytes)

abbrev pub side_of_letter : ℕ → Option Side
side_of_letter c = if c == 67 then Some Client else (if c == 83 then Some Server else None)

-- bytes behind their number
abbrev pub with_length : List ℕ → Option (List ℕ)
with_length bytes = if nat_lt (length bytes) (2 ^ 32) then Some (to_be_bytes w32 (length bytes) ++ bytes) else None

-- the bytes of a packet with this layout
abbrev pub read_packet : List ℕ → Shape → Option (List ℕ)
read_packet text layout = option_and_then with_length (whole ((packet_text layout).read [] text))

-- the bytes of a line after its side
unfoldable pub bytes_of_text : Side → List ℕ → Option (List ℕ)
bytes_of_text side text = if_found (layout_of_text side text) (read_packet text) (raw_read text)

-- the side and the bytes of the record of a line, if it is in the form of one
unfoldable pub line_read : List ℕ → Option (Side × List ℕ)
line_read [] = None
line_read (c ∷ text) =
    option_and_then (λ side. option_and_then (λ bytes. Some (side, bytes)) (bytes_of_text side text)) (side_of_letter c)

-- ---- sessions

-- each record's line with a line feed
unfoldable pub text_of : List (Side × List ℕ) → List ℕ
text_of records = flat_map (λ r. line_of r.0 r.1 ++ 10 ∷ []) records

-- whether a line says nothing: it has only spaces, or its first other character is `#`
abbrev pub is_blank : List ℕ → Bool
is_blank [] = true
is_blank (c ∷ line) = if c == 32 then is_blank line else c == 35

-- a record in front of others
abbrev pub and_others : Option (Side × List ℕ) → Option (List (Side × List ℕ)) → Option (List (Side × List ℕ))
and_others first others = option_and_then (λ r. option_and_then (λ rs. Some (r ∷ rs)) others) first

-- the records of a line and of those behind it
abbrev pub with_line : List ℕ → Option (List (Side × List ℕ)) → Option (List (Side × List ℕ))
with_line line others = if is_blank line then others else and_others (line_read line) others

-- the records of a text, of whose first line the given part is read
abbrev pub lines_read : List ℕ → List ℕ → Option (List (Side × List ℕ))
lines_read line [] = with_line line (Some [])
lines_read line (c ∷ text) = if c == 10 then with_line line (lines_read [] text) else lines_read (line ++ c ∷ []) text

-- the records of a text, if each line that says something is in the form of one
unfoldable pub text_read : List ℕ → Option (List (Side × List ℕ))
text_read text = lines_read [] text

-- ---- transcript files

-- the opening of a transcript file
abbrev pub transcript_opening : List ℕ
transcript_opening = codes "SFTPTR01"

-- a transcript file with these records: each is its side's letter and its bytes
abbrev pub transcript_of : List (Side × List ℕ) → List ℕ
transcript_of records = transcript_opening ++ flat_map (λ r. side_letter r.0 ∷ r.1) records

-- how many bytes the record in front has: as its length field says, or all where it has none or too great a one
abbrev pub record_length : List ℕ → ℕ
record_length bytes = if_found (front_uint32 bytes) (λ front. min (4 + front.0) (length bytes)) (length bytes)

-- the records of bytes up to their end, at most the given number of them, if a side's letter is in front of each
abbrev pub records_up_to : ℕ → List ℕ → Option (List (Side × List ℕ))
records_up_to zero bytes = Some []
records_up_to (suc most) [] = Some []
records_up_to (suc most) (c ∷ bytes) =
    option_and_then
    (λ side.
    option_and_then (λ others. Some ((side, take (record_length bytes) bytes) ∷ others))
    (records_up_to most (drop (record_length bytes) bytes)))
    (side_of_letter c)

-- the records of a transcript file
unfoldable pub records_of : List ℕ → Option (List (Side × List ℕ))
records_of bytes =
    option_and_then (λ rest. records_up_to (length rest) rest) (strip transcript_opening bytes)

-- ---- the lines of a text

-- a line in front of others, unless it says nothing
abbrev pub with_said : List ℕ → List (List ℕ) → List (List ℕ)
with_said line others = if is_blank line then others else line ∷ others

-- the lines of a text that say something, of whose first line the given part is read
abbrev pub said_lines : List ℕ → List ℕ → List (List ℕ)
said_lines line [] = with_said line []
said_lines line (c ∷ text) = if c == 10 then with_said line (said_lines [] text) else said_lines (line ++ c ∷ []) text
