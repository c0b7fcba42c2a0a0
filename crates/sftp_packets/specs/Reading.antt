-- How the fields of packets are read, from left to right and up to the first fault (draft-ietf-secsh-filexfer-02,
-- sections 3 to 8).
-- This is a second definition of the format beside the encoding; that the two agree is proved.
use Rattle.std.specs.Prelude.{◌≡◌, ◌==◌, nat_lt, ℕ, zero, suc, Bool, if◌then◌else◌}
use Rattle.std.specs.Prelude.{List, [], ◌∷◌, length, take, drop, Option, Some, None, Result, Ok, Err}
use Rattle.std.specs.Int.{w32, w64, Width, byte_len, from_be_bytes}
use Rattle.std.specs.Int.RustNames.{bit_and}
use Rattle.sftp_packets.specs.declared.errors.Fault.{Fault}
use Rattle.sftp_packets.specs.declared.errors.Fault.TheVariants.{Short, Flags, HandleTooLong}
use Rattle.sftp_packets.specs.declared.errors.ReadError.{ReadError}
use Rattle.sftp_packets.specs.declared.errors.ReadError.TheVariants as reads
use Rattle.sftp_packets.specs.declared.attributes.Attrs.{Attrs}
use Rattle.sftp_packets.specs.declared.names.NameItem.{NameItem}
use Rattle.sftp_packets.specs.Spelling.{handle_limit}

-- A reader takes a value from the front of the bytes and returns it with the rest, or the first fault.
abbrev pub Reader : Type 0 → Type 0
Reader A = List ℕ → Result (A × List ℕ) Fault

infixl 10 ◌>>=◌
abbrev pub ◌>>=◌ : {A B : Type 0} → Result A Fault → (A → Result B Fault) → Result B Fault
(Ok x) >>= f = f x
(Err e) >>= f = Err e

-- ---- readers of fields in their order, and what they make

-- a reader that always fails
abbrev pub refuse : {A : Type 0} → Fault → Reader A
refuse fault bytes = Err fault

-- a value that has no fields
abbrev pub none_at : {A : Type 0} → A → Reader A
none_at value bytes = Ok (value, bytes)

abbrev pub one : {A C : Type 0} → Reader A → (A → C) → Reader C
one first make bytes = do
  a ← first bytes
  Ok (make a.0, a.1)

abbrev pub two : {A B C : Type 0} → Reader A → Reader B → (A → B → C) → Reader C
two first second make bytes = do
  a ← first bytes
  b ← second a.1
  Ok (make a.0 b.0, b.1)

abbrev pub three : {A B C D : Type 0} → Reader A → Reader B → Reader C → (A → B → C → D) → Reader D
three first second third make bytes = do
  a ← first bytes
  b ← second a.1
  c ← third b.1
  Ok (make a.0 b.0 c.0, c.1)

-- an optional field, by whether it is present
abbrev pub optional_at : {A : Type 0} → Bool → Reader A → Reader (Option A)
optional_at there read bytes = if there then one read Some bytes else Ok (None, bytes)

-- `count` values, one after the other
abbrev pub many_at : {A : Type 0} → Reader A → ℕ → Reader (List A)
many_at read zero bytes = Ok ([], bytes)
many_at read (suc count) bytes = do
  first ← read bytes
  others ← many_at read count first.1
  Ok (first.0 ∷ others.0, others.1)

-- values up to the end of the bytes, at most the given number of them
abbrev pub up_to_end : {A : Type 0} → Reader A → ℕ → Reader (List A)
up_to_end read zero bytes = Ok ([], bytes)
up_to_end read (suc most) [] = Ok ([], [])
up_to_end read (suc most) (b ∷ bytes) = do
  first ← read (b ∷ bytes)
  others ← up_to_end read most first.1
  Ok (first.0 ∷ others.0, others.1)

-- ---- fields (draft, section 3)

abbrev pub number_at : Width → Reader ℕ
number_at w bytes =
    if nat_lt (length bytes) (byte_len w) then Err Short else
    Ok (from_be_bytes w (take (byte_len w) bytes), drop (byte_len w) bytes)

unfoldable pub uint32_at : Reader ℕ
uint32_at = number_at w32

unfoldable pub uint64_at : Reader ℕ
uint64_at = number_at w64

-- as many bytes as a length says
abbrev pub bytes_at : ℕ → Reader (List ℕ)
bytes_at n bytes = if nat_lt (length bytes) n then Err Short else Ok (take n bytes, drop n bytes)

unfoldable pub string_at : Reader (List ℕ)
string_at bytes = do
  n ← uint32_at bytes
  bytes_at n.0 n.1

-- a handle: its length is checked before its bytes (draft, section 7)
unfoldable pub handle_at : Reader (List ℕ)
handle_at bytes = do
  n ← uint32_at bytes
  if nat_lt handle_limit n.0 then Err HandleTooLong else bytes_at n.0 n.1

-- all bytes that are left
abbrev pub rest_at : Reader (List ℕ)
rest_at bytes = Ok (bytes, [])

unfoldable pub two_uint32_at : Reader (ℕ × ℕ)
two_uint32_at = two uint32_at uint32_at (λ a b. (a, b))

unfoldable pub pair_at : Reader (List ℕ × List ℕ)
pair_at = two string_at string_at (λ name text. (name, text))

-- pairs up to the end (draft, section 4); each takes at least a byte
unfoldable pub pairs_at : Reader (List (List ℕ × List ℕ))
pairs_at bytes = up_to_end pair_at (length bytes) bytes

-- pairs after their count (draft, section 5)
unfoldable pub counted_pairs_at : Reader (List (List ℕ × List ℕ))
counted_pairs_at bytes = do
  n ← uint32_at bytes
  many_at pair_at n.0 n.1

-- ---- file attributes (draft, section 5)

-- whether a flag is set
abbrev pub has_flag : ℕ → ℕ → Bool
has_flag flags flag = bit_and flags flag == flag

-- whether the flags are all known
abbrev pub are_known : ℕ → Bool
are_known flags = bit_and flags 0x8000000f == flags

-- the fields that the flags name
unfoldable pub attribute_fields_at : ℕ → Reader Attrs
attribute_fields_at flags bytes = do
  size ← optional_at (has_flag flags 0x00000001) uint64_at bytes
  owner ← optional_at (has_flag flags 0x00000002) two_uint32_at size.1
  permissions ← optional_at (has_flag flags 0x00000004) uint32_at owner.1
  times ← optional_at (has_flag flags 0x00000008) two_uint32_at permissions.1
  extended ← optional_at (has_flag flags 0x80000000) counted_pairs_at times.1
  Ok (
    record {
      size = size.0;
      owner = owner.0;
      permissions = permissions.0;
      times = times.0;
      extended = extended.0;
    },
    extended.1,
  )

-- an unknown flag is a fault before any field after the flags
unfoldable pub attributes_at : Reader Attrs
attributes_at bytes = do
  flags ← uint32_at bytes
  if are_known flags.0 then attribute_fields_at flags.0 flags.1 else Err Flags

-- ---- names of a directory (draft, section 7)

unfoldable pub name_item_at : Reader NameItem
name_item_at =
    three string_at string_at attributes_at
    (λ filename longname attrs. record { filename = filename; longname = longname; attrs = attrs })

-- names after their count
unfoldable pub names_at : Reader (List NameItem)
names_at bytes = do
  n ← uint32_at bytes
  many_at name_item_at n.0 n.1

-- ---- what the code returns, beside the readers above

-- the code returns what `read` does, and leaves the same rest, unless memory runs out
abbrev pub Reads : {A : Type 0} → Result A ReadError → List ℕ → Result (A × List ℕ) Fault → Type 0
Reads (Ok x) rest read = read ≡ Ok (x, rest)
Reads (Err reads.NoMemory) rest read = Unit {0}
Reads (Err (reads.Fault f)) rest read = read ≡ Err f

-- the same without a rest
abbrev pub Gives : {A : Type 0} → Result A ReadError → Result A Fault → Type 0
Gives (Ok x) read = read ≡ Ok x
Gives (Err reads.NoMemory) read = Unit {0}
Gives (Err (reads.Fault f)) read = read ≡ Err f
