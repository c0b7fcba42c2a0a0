-- How the fields of packets are spelled in bytes (draft-ietf-secsh-filexfer-02, sections 3 to 8).
use Rattle.std.specs.Prelude.{ℕ, ◌+◌, ◌^◌, ◌<◌, List, [], ◌∷◌, ◌++◌, length}
use Rattle.std.specs.Prelude.{Option, Some, None, IfSome}
use Rattle.std.specs.List.{flat_map, AllByRecursion}
pub use Rattle.sftp_strings.specs.Strings.{uint32, uint64, string, AreBytes}
use Rattle.sftp_packets.specs.declared.attributes.Attrs.{Attrs}
use Rattle.sftp_packets.specs.declared.names.NameItem.{NameItem}

-- ---- fields (draft, section 3)

-- two numbers, one after the other
abbrev pub two_uint32 : ℕ × ℕ → List ℕ
two_uint32 p = uint32 p.0 ++ uint32 p.1

-- a name and its data
abbrev pub pair : List ℕ × List ℕ → List ℕ
pair p = string p.0 ++ string p.1

-- pairs up to the packet's end (draft, section 4)
abbrev pub pairs : List (List ℕ × List ℕ) → List ℕ
pairs ps = flat_map pair ps

-- how many pairs there are, and then the pairs (draft, section 5)
abbrev pub counted_pairs : List (List ℕ × List ℕ) → List ℕ
counted_pairs ps = uint32 (length ps) ++ pairs ps

-- an optional field
abbrev pub optional : {A : Type 0} → (A → List ℕ) → Option A → List ℕ
optional spell None = []
optional spell (Some a) = spell a

-- ---- file attributes (draft, section 5)

-- no fields
abbrev pub no_attributes : Attrs
no_attributes = record { size = None; owner = None; permissions = None; times = None; extended = None }

-- the flag of an optional field
abbrev pub flag : {A : Type 0} → ℕ → Option A → ℕ
flag bit None = 0
flag bit (Some a) = bit

-- the flags say which fields are present
abbrev pub attribute_flags : Attrs → ℕ
attribute_flags a =
    flag 0x00000001 a.size + flag 0x00000002 a.owner + flag 0x00000004 a.permissions + flag 0x00000008 a.times
    + flag 0x80000000 a.extended

-- the fields in their order
abbrev pub attribute_fields : Attrs → List ℕ
attribute_fields a =
    optional uint64 a.size ++ (optional two_uint32 a.owner ++ (optional uint32 a.permissions
    ++ (optional two_uint32 a.times ++ optional counted_pairs a.extended)))

abbrev pub attributes : Attrs → List ℕ
attributes a = uint32 (attribute_flags a) ++ attribute_fields a

-- ---- names of a directory (draft, section 7)

abbrev pub name_item : NameItem → List ℕ
name_item n = string n.filename ++ (string n.longname ++ attributes n.attrs)

-- how many names there are, and then the names
abbrev pub names : List NameItem → List ℕ
names ns = uint32 (length ns) ++ flat_map name_item ns

-- ---- packets as rows

-- a field of a packet (draft, section 3)
pub data Field : Type 0 where
  -- a number of four bytes, and one of eight
  Number : ℕ → Field
  LongNumber : ℕ → Field
  -- the flags of OPEN, in four bytes (draft, section 6.3)
  Flags : ℕ → Field
  -- a string
  Text : List ℕ → Field
  -- a string that is a handle
  Handle : List ℕ → Field
  -- a string that is the name of an extension
  ExtensionName : List ℕ → Field
  -- a message for people, and the tag of its language (draft, section 7)
  Message : List ℕ → List ℕ → Field
  -- bytes up to the packet's end
  Rest : List ℕ → Field
  -- file attributes, and names of a directory
  Attributes : Attrs → Field
  Items : List NameItem → Field

-- A packet's type and the type's name, the name of an extension that has a request of its own, and the further fields
-- in their order.
pub record Row : Type 0 where
  pub kind : ℕ
  pub name : List ℕ
  pub extension : Option (List ℕ)
  pub fields : List Field

-- a packet that has a type of its own
abbrev pub plain : ℕ → List ℕ → List Field → Row
plain kind name fields = record { kind = kind; name = name; extension = None; fields = fields }

-- an extension that has a request of its own
abbrev pub extension : List ℕ → List ℕ → List Field → Row
extension name known fields = record { kind = 200; name = name; extension = Some known; fields = fields }

-- ---- how rows are spelled

abbrev pub field_bytes : Field → List ℕ
field_bytes (Number number) = uint32 number
field_bytes (LongNumber number) = uint64 number
field_bytes (Flags flags) = uint32 flags
field_bytes (Text text) = string text
field_bytes (Handle handle) = string handle
field_bytes (ExtensionName name) = string name
field_bytes (Message message language) = string message ++ string language
field_bytes (Rest bytes) = bytes
field_bytes (Attributes attrs) = attributes attrs
field_bytes (Items items) = names items

abbrev pub fields_bytes : List Field → List ℕ
fields_bytes [] = []
fields_bytes (field ∷ []) = field_bytes field
fields_bytes (field ∷ next ∷ others) = field_bytes field ++ fields_bytes (next ∷ others)

-- the name of an extension comes before its data
abbrev pub named_bytes : Option (List ℕ) → List Field → List ℕ
named_bytes None fields = fields_bytes fields
named_bytes (Some name) [] = string name
named_bytes (Some name) (field ∷ fields) = string name ++ fields_bytes (field ∷ fields)

-- a row's type and the bytes after its id
abbrev pub row_parts : Row → ℕ × List ℕ
row_parts row = (row.kind, named_bytes row.extension row.fields)

-- a type, an id, and the fields in their order (draft, section 3)
abbrev pub with_id : ℕ → ℕ × List ℕ → List ℕ
with_id id parts = parts.0 ∷ uint32 id ++ parts.1

-- ---- which fields have an encoding

-- a string whose length fits its field
pub record FitsString (bytes : List ℕ) : Type 0 where
  pub bytes_fit : AreBytes bytes
  pub length_fits : length bytes < 2 ^ 32

abbrev pub FitsTwo : ℕ × ℕ → Type 0
FitsTwo p = (p.0 < 2 ^ 32) × (p.1 < 2 ^ 32)

abbrev pub FitsPair : List ℕ × List ℕ → Type 0
FitsPair p = FitsString p.0 × FitsString p.1

abbrev pub FitsPairs : List (List ℕ × List ℕ) → Type 0
FitsPairs ps = AllByRecursion FitsPair ps

abbrev pub FitsCounted : List (List ℕ × List ℕ) → Type 0
FitsCounted ps = (length ps < 2 ^ 32) × FitsPairs ps

pub record FitsAttrs (a : Attrs) : Type 0 where
  pub size : IfSome a.size (λ n. n < 2 ^ 64)
  pub owner : IfSome a.owner FitsTwo
  pub permissions : IfSome a.permissions (λ n. n < 2 ^ 32)
  pub times : IfSome a.times FitsTwo
  pub extended : IfSome a.extended FitsCounted

pub record FitsNameItem (n : NameItem) : Type 0 where
  pub filename : FitsString n.filename
  pub longname : FitsString n.longname
  pub attrs : FitsAttrs n.attrs

abbrev pub FitsNames : List NameItem → Type 0
FitsNames ns = (length ns < 2 ^ 32) × AllByRecursion FitsNameItem ns

-- each number is in its field's range, and each string is of bytes
abbrev pub FitsField : Field → Type 0
FitsField (Number number) = number < 2 ^ 32
FitsField (LongNumber number) = number < 2 ^ 64
FitsField (Flags flags) = flags < 2 ^ 32
FitsField (Text text) = FitsString text
FitsField (Handle handle) = FitsString handle
FitsField (ExtensionName name) = FitsString name
FitsField (Message message language) = FitsString message × FitsString language
FitsField (Rest bytes) = AreBytes bytes
FitsField (Attributes attrs) = FitsAttrs attrs
FitsField (Items items) = FitsNames items

-- each field of a row is in range
abbrev pub Fit : List Field → Type 0
Fit [] = Unit {0}
Fit (field ∷ []) = FitsField field
Fit (field ∷ next ∷ others) = FitsField field × Fit (next ∷ others)

-- ---- limits, and handles

-- the most bytes of a whole packet, its length field included. This profile's own.
abbrev pub packet_limit : ℕ
packet_limit = 262144

-- the most bytes of a handle (draft, section 7)
abbrev pub handle_limit : ℕ
handle_limit = 256

-- the handle among fields, which comes first
abbrev pub handle_in : List Field → Option (List ℕ)
handle_in (Handle handle ∷ others) = Some handle
handle_in other = None
