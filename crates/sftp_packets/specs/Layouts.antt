-- The layouts of packets: what each consists of, without its values, for a reader that goes over a packet's bytes field
-- by field. Those of requests and replies follow from their rows.
use Rattle.std.specs.Prelude.{ℕ, ◌==◌, ◌&&◌, Bool, true, false, if◌then◌else◌, nat_eq, bytes_eq, List, [], ◌∷◌, codes}
use Rattle.std.specs.Prelude.{drop, find, map, Option, Some, None, ◌≡◌, ◌⊎◌, ◌<◌, ◌++◌, length, IfSome}
use Rattle.std.specs.List.{starts_with}
use Rattle.sftp_packets.specs.declared.packets.Packet.{Packet}
use Rattle.sftp_packets.specs.declared.packets.Packet.TheVariants.{Init, Version, Request, Reply}
use Rattle.sftp_packets.specs.declared.packets.Side.{Side}
use Rattle.sftp_packets.specs.declared.packets.Side.TheVariants.{Client, Server}
use Rattle.sftp_packets.specs.declared.layouts.FieldKind.{FieldKind}
use Rattle.sftp_packets.specs.declared.layouts.FieldKind.TheVariants as kinds
use Rattle.sftp_packets.specs.declared.layouts.Tail.{Tail}
use Rattle.sftp_packets.specs.declared.layouts.Tail.TheVariants as tails
use Rattle.sftp_packets.specs.declared.layouts.Layout.{Layout}
use Rattle.sftp_packets.specs.Spelling.{Field, Number, LongNumber, Flags, Text, Handle, ExtensionName, Message, Rest}
use Rattle.sftp_packets.specs.Spelling.{Attributes, Items, Row, string, packet_limit, handle_limit, AreBytes, FitsTwo}
use Rattle.sftp_packets.specs.Requests.{ask_row, every_ask}
use Rattle.sftp_packets.specs.Requests.{answer_row, every_answer}
use Rattle.std.specs.Option.{IsSomeAnd}
use Rattle.sftp_packets.specs.Packets.{handle_of, hides_extension, spelling}
use Rattle.sftp_packets.specs.declared.attributes.Attrs.{Attrs}
use Rattle.sftp_packets.specs.declared.requests.Ask.{Ask}

-- A layout: the packet's type, whether an id comes after it, the type's name, the name of a known extension as a string
-- (the mark, which is empty in every other layout), the kinds of the fields, and what comes after them.
pub record Shape : Type 0 where
  pub kind : ℕ
  pub has_id : Bool
  pub name : List ℕ
  pub mark : List ℕ
  pub fields : List FieldKind
  pub tail : Tail

-- a layout of the code
abbrev pub shape : Layout → Shape
shape layout = record {
  kind = layout.kind;
  has_id = layout.has_id;
  name = layout.name.now;
  mark = layout.mark.now;
  fields = layout.fields.now;
  tail = layout.tail;
}

-- ---- the layout of a packet

-- a field without its value before others: it is of a kind, or is what comes after the fields
abbrev pub before : Field → List FieldKind × Tail → List FieldKind × Tail
before (Number number) others = (kinds.Number ∷ others.0, others.1)
before (LongNumber number) others = (kinds.LongNumber ∷ others.0, others.1)
before (Flags flags) others = (kinds.Flags ∷ others.0, others.1)
before (Text text) others = (kinds.Text ∷ others.0, others.1)
before (Handle handle) others = (kinds.Handle ∷ others.0, others.1)
before (ExtensionName name) others = (kinds.Text ∷ others.0, others.1)
before (Message message language) others = ([], tails.Message)
before (Rest bytes) others = ([], tails.Rest)
before (Attributes attrs) others = ([], tails.Attributes)
before (Items items) others = ([], tails.Items)

-- fields without their values
abbrev pub kinds_of : List Field → List FieldKind × Tail
kinds_of [] = ([], tails.Nothing)
kinds_of (field ∷ fields) = before field (kinds_of fields)

-- the name of a known extension as a string
abbrev pub mark_of : Option (List ℕ) → List ℕ
mark_of None = []
mark_of (Some known) = string known

abbrev pub row_shape : Row → Shape
row_shape row = record {
  kind = row.kind;
  has_id = true;
  name = row.name;
  mark = mark_of row.extension;
  fields = (kinds_of row.fields).0;
  tail = (kinds_of row.fields).1;
}

-- the first packet of a side: a version, and pairs (draft, section 4)
abbrev pub first_packet : ℕ → List ℕ → Shape
first_packet kind name = record {
  kind = kind;
  has_id = false;
  name = name;
  mark = [];
  fields = kinds.Number ∷ [];
  tail = tails.Pairs;
}

abbrev pub packet_shape : Packet → Shape
packet_shape (Init version extensions) = first_packet 1 (codes "INIT")
packet_shape (Version version extensions) = first_packet 2 (codes "VERSION")
packet_shape (Request request) = row_shape (ask_row request.ask)
packet_shape (Reply reply) = row_shape (answer_row reply.answer)

-- ---- all layouts

-- the layouts of what a side sends
unfoldable pub shapes : Side → List Shape
shapes Client = first_packet 1 (codes "INIT") ∷ map (λ ask. row_shape (ask_row ask)) every_ask
shapes Server = first_packet 2 (codes "VERSION") ∷ map (λ answer. row_shape (answer_row answer)) every_answer

-- ---- the layout of bytes

-- whether a packet's bytes, its length included, have the layout's type at byte 4 and its mark at byte 9
abbrev pub may_have : List ℕ → Shape → Bool
may_have bytes s = starts_with nat_eq (drop 4 bytes) (s.kind ∷ []) && starts_with nat_eq (drop 9 bytes) s.mark

-- the layout of a packet's bytes
unfoldable pub layout_of_bytes : Side → List ℕ → Option Shape
layout_of_bytes side bytes = find (may_have bytes) (shapes side)

-- ---- names of types

-- the name of a layout's type (draft, section 3): all extensions have the type EXTENDED
abbrev pub type_name_of : Shape → List ℕ
type_name_of s = if bytes_eq s.mark [] then s.name else codes "EXTENDED"

-- the name of a packet's type
abbrev pub type_name : Packet → List ℕ
type_name packet = type_name_of (packet_shape packet)

-- whether a layout is that of a type, and of no known extension
abbrev pub is_of_type : ℕ → Shape → Bool
is_of_type kind s = s.kind == kind && bytes_eq s.mark []

abbrev pub name_in : Option Shape → List ℕ
name_in None = []
name_in (Some s) = s.name

-- ==== What `encode` leaves of the bytes that it appends to, and which packets it refuses.

-- `new` is `old` with bytes appended
pub record Extends (old new : List ℕ) : Type 0 where
  pub tail : List ℕ
  pub parts : new ≡ old ++ tail

-- the whole packet would be too long, or its handle is
abbrev pub IsTooLong : Packet → Type 0
IsTooLong packet =
    (packet_limit < length (spelling packet)) ⊎ IsSomeAnd (handle_of packet) (λ handle. handle_limit < length handle)

-- the packet is within its limits, but is an `Unknown` with the name of an extension that has a request of its own
abbrev pub IsNotCanonical : Packet → Type 0
IsNotCanonical packet = (IsTooLong packet → ⊥) × (hides_extension packet ≡ true)

-- ==== What holds of the values of requests: their bytes are bytes, and the numbers of an owner have 32 bits. Nothing
-- is said of lengths, so it holds of more requests than can be encoded.

-- the numbers of the owner, if one is given, have 32 bits
abbrev pub IsAttrs : Attrs → Type 0
IsAttrs attrs = IfSome attrs.owner FitsTwo

-- of a field: a path and the data of a WRITE are bytes; nothing is said of a handle and of an unknown extension
abbrev pub IsValue : Field → Type 0
IsValue (Text text) = AreBytes text
IsValue (Attributes attrs) = IsAttrs attrs
IsValue other = Unit {0}

abbrev pub AreValues : List Field → Type 0
AreValues [] = Unit {0}
AreValues (field ∷ []) = IsValue field
AreValues (field ∷ next ∷ others) = IsValue field × AreValues (next ∷ others)

-- of a request
abbrev pub IsAsk : Ask → Type 0
IsAsk ask = AreValues (ask_row ask).fields
