-- A content in pieces: its front, and pages behind it. What a piece lacks is zeros.
use Rattle.std.specs.Prelude.{ℕ, ◌≢◌, ◌+◌, ◌-◌, ◌/◌, ◌%◌, ◌<◌, ◌≤◌, ◌≡◌, ◌==◌, List, [], length, take}
use Rattle.std.specs.Prelude.{Option, Some, None, if◌then◌else◌, nat_lt, slice_index}
use Rattle.std.specs.Ordering.{nat_cmp}
use Rattle.std.specs.BTreeMap.{is_at}
use Rattle.std.specs.Map.{lookup}
use Rattle.std.specs.Global.{Vec}
use Rattle.sftp_contents.specs.declared.store.Store.{Store}
use Rattle.sftp_contents.specs.Bytes.{tabulate}

-- the piece that a byte is in: 0 is the front
unfoldable pub piece_number : ℕ → ℕ → ℕ
piece_number room i = if nat_lt i room then 0 else (i - room) / 65536 + 1

-- where in its piece a byte is
unfoldable pub piece_offset : ℕ → ℕ → ℕ
piece_offset room i = if nat_lt i room then i else (i - room) % 65536

-- how many bytes of the piece there are from there on
unfoldable pub piece_left : ℕ → ℕ → ℕ
piece_left room i = if nat_lt i room then room - i else 65536 - (i - room) % 65536

abbrev pub items_of : Option (Vec ℕ) → List ℕ
items_of None = []
items_of (Some v) = v.items

-- the bytes that are kept of a page
unfoldable pub page : List (ℕ × Vec ℕ) → ℕ → List ℕ
page pages k = items_of (lookup (is_at (nat_cmp k)) pages)

-- the bytes that are kept of a piece
unfoldable pub piece : Store → ℕ → List ℕ
piece s n = if n == 0 then s.front.items else page s.pages.entries (n - 1)

-- a byte of a piece
unfoldable pub at_piece : Store → ℕ → ℕ → ℕ
at_piece s n k = slice_index (piece s n) k

-- the byte at a number
unfoldable pub byte_at : Store → ℕ → ℕ
byte_at s i = at_piece s (piece_number s.room i) (piece_offset s.room i)

-- the bytes up to a length
unfoldable pub bytes_of : Store → ℕ → List ℕ
bytes_of s len = tabulate (byte_at s) 0 len

-- the byte is kept, and not a zero that is lacking
unfoldable pub IsKept : Store → ℕ → Type 0
IsKept s i = piece_offset s.room i < length (piece s (piece_number s.room i))

-- no bytes but zeros are behind the length
unfoldable pub IsZeroBehind : Store → ℕ → Type 0
IsZeroBehind s len = (i : ℕ) → len ≤ i → byte_at s i ≡ 0

-- a page has these bytes; the others stay
unfoldable pub IsWithPage : ℕ → List ℕ → List (ℕ × Vec ℕ) → List (ℕ × Vec ℕ) → Type 0
IsWithPage number bytes before after =
    (page after number ≡ bytes) × ((other : ℕ) → other ≢ number → page after other ≡ page before other)

-- the pages have the bytes that they had
unfoldable pub AreSamePages : List (ℕ × Vec ℕ) → List (ℕ × Vec ℕ) → Type 0
AreSamePages before after = (number : ℕ) → page after number ≡ page before number

-- a piece has these bytes; the others stay
unfoldable pub IsWithPiece : ℕ → List ℕ → Store → Store → Type 0
IsWithPiece number bytes before after =
    (piece after number ≡ bytes) × ((other : ℕ) → other ≢ number → piece after other ≡ piece before other)

-- the pieces have the bytes that they had
unfoldable pub AreSamePieces : Store → Store → Type 0
AreSamePieces before after = (number : ℕ) → piece after number ≡ piece before number

-- the bytes of a range are kept
unfoldable pub AreKept : Store → ℕ → ℕ → Type 0
AreKept s offset count = (i : ℕ) → offset ≤ i → i < offset + count → IsKept s i

-- the bytes from a size on are zeros; the others stay
unfoldable pub IsCut : ℕ → Store → Store → Type 0
IsCut size before after = (i : ℕ) → byte_at after i ≡ (if nat_lt i size then byte_at before i else 0)

-- pages behind the last are gone, and what the last has behind so many bytes
unfoldable pub AreCutPages : ℕ → ℕ → List (ℕ × Vec ℕ) → List (ℕ × Vec ℕ) → Type 0
AreCutPages last count before after =
    (page after last ≡ take count (page before last)) × ((n : ℕ) → n < last → page after n ≡ page before n)
    × ((n : ℕ) → last < n → page after n ≡ [])
