-- Files of orders: how they are spelled, and what bytes are read as. This profile's own.
use Rattle.std.specs.Prelude.{◌≡◌, ◌==◌, ◌<◌, ◌^◌, not, nat_lt, bytes_eq, ℕ, zero, suc, Bool, true, false}
use Rattle.std.specs.Prelude.{if◌then◌else◌}
use Rattle.std.specs.Prelude.{List, [], ◌∷◌, ◌++◌, length, take, drop, codes, Result, Ok, Err, Option, Some, None}
use Rattle.std.specs.Int.{w16, w32, to_be_bytes, from_be_bytes}
use Rattle.std.specs.List.{flat_map}
use Rattle.std.specs.Ordering.{nat_cmp}
use Rattle.std.specs.declared.cmp.Ordering.{Ordering}
use Rattle.std.specs.declared.cmp.Ordering.TheVariants.{Less, Equal, Greater}
use Rattle.std.specs.Cmp.Lexicographic.{slice_cmp}
use Rattle.sftp_strings.specs.Strings.{uint32, string}
use Rattle.sftp_orders.specs.declared.errors.OrderError.{OrderError}
use Rattle.sftp_orders.specs.declared.errors.OrderError.TheVariants.{Magic, Truncated, Name, Session, Part, NoMemory}
use Rattle.sftp_orders.specs.declared.files.Order.{Order}

-- ---- as bytes

abbrev pub opening : List ℕ
opening = codes "SFTPOR01"

-- a place: the number of the session, and that its request is whole
abbrev pub place_text : ℕ → List ℕ
place_text session = to_be_bytes w16 session ++ to_be_bytes w16 0

-- the bytes of a file: the names of the sessions, how many bytes a piece of a READ has, and the places
abbrev pub spelled : List (List ℕ) → ℕ → List ℕ → List ℕ
spelled names piece places =
    opening
    ++ (uint32 (length names) ++ (flat_map string names ++ (uint32 piece ++ flat_map place_text places)))

-- ---- as it is read

-- the number that is in front, and what follows it
abbrev pub number_at : List ℕ → Option (ℕ × List ℕ)
number_at bytes =
    if nat_lt (length bytes) 4 then None else Some (from_be_bytes w32 (take 4 bytes), drop 4 bytes)

-- so many bytes, and what follows them
abbrev pub bytes_of : Option (ℕ × List ℕ) → Option (List ℕ × List ℕ)
bytes_of None = None
bytes_of (Some found) =
    if nat_lt (length found.1) found.0 then None else Some (take found.0 found.1, drop found.0 found.1)

-- the string that is in front, and what follows it
abbrev pub string_at : List ℕ → Option (List ℕ × List ℕ)
string_at bytes = bytes_of (number_at bytes)

abbrev pub is_less : Ordering → Bool
is_less Less = true
is_less Equal = false
is_less Greater = false

-- whether a name may follow the one before it, if there is one: byte by byte it is greater
abbrev pub may_follow : Option (List ℕ) → List ℕ → Bool
may_follow None name = true
may_follow (Some last) name = is_less (slice_cmp nat_cmp last name)

-- the name of this number, behind another one
abbrev pub named : ℕ → Option (List ℕ) → Option (List ℕ × List ℕ) → Result (List ℕ × List ℕ) OrderError
named number last None = Err (Truncated 0)
named number last (Some found) = if may_follow last found.0 then Ok found else Err (Name number)

abbrev pub name_at : ℕ → Option (List ℕ) → List ℕ → Result (List ℕ × List ℕ) OrderError
name_at number last bytes = named number last (string_at bytes)

-- names, and what follows them
abbrev pub Names : Type 0
Names = Result (List (List ℕ) × List ℕ) OrderError

-- names in front of those that are read
abbrev pub prepend : List (List ℕ) → Names → Names
prepend names (Ok more) = Ok (names ++ more.0, more.1)
prepend names (Err error) = Err error

-- a name, and the names behind it
abbrev pub followed : Result (List ℕ × List ℕ) OrderError → (List ℕ → List ℕ → Names) → Names
followed (Ok found) more = prepend (found.0 ∷ []) (more found.0 found.1)
followed (Err error) more = Err error

-- so many names, from the one with this number on
unfoldable pub names_in : ℕ → ℕ → Option (List ℕ) → List ℕ → Names
names_in zero number last bytes = Ok ([], bytes)
names_in (suc count) number last bytes =
    followed (name_at number last bytes) (λ name rest. names_in count (suc number) (Some name) rest)

-- a place: whole requests alone, of sessions that there are
abbrev pub placed : ℕ → ℕ → ℕ → ℕ → Result ℕ OrderError
placed count number session part =
    if not (part == 0) then Err (Part number)
    else (if nat_lt session count then Ok session else Err (Session number))

-- the place of this number that is in front, where so many sessions are
abbrev pub place_at : ℕ → ℕ → List ℕ → Result ℕ OrderError
place_at count number bytes =
    if nat_lt (length bytes) 4 then Err (Truncated number)
    else placed count number (from_be_bytes w16 (take 2 bytes)) (from_be_bytes w16 (take 2 (drop 2 bytes)))

-- places in front of those that are read
abbrev pub behind : List ℕ → Result (List ℕ) OrderError → Result (List ℕ) OrderError
behind places (Ok more) = Ok (places ++ more)
behind places (Err error) = Err error

-- a place, and those behind it
abbrev pub then_places : Result ℕ OrderError → Result (List ℕ) OrderError → Result (List ℕ) OrderError
then_places (Ok session) more = behind (session ∷ []) more
then_places (Err error) more = Err error

-- all places, from the one with this number on; the first number bounds how many there are
abbrev pub places_within : ℕ → ℕ → ℕ → List ℕ → Result (List ℕ) OrderError
places_within most count number [] = Ok []
places_within zero count number (byte ∷ bytes) = Ok []
places_within (suc most) count number (byte ∷ bytes) =
    then_places (place_at count number (byte ∷ bytes))
    (places_within most count (suc number) (drop 4 (byte ∷ bytes)))

unfoldable pub places_in : ℕ → ℕ → List ℕ → Result (List ℕ) OrderError
places_in count number bytes = places_within (length bytes) count number bytes

-- the parts of a file, one after the other
abbrev pub with_places : List (List ℕ) → Result (List ℕ) OrderError → Result (List (List ℕ) × List ℕ) OrderError
with_places names (Ok places) = Ok (names, places)
with_places names (Err error) = Err error

abbrev pub after_piece : ℕ → List (List ℕ) → Option (ℕ × List ℕ) → Result (List (List ℕ) × List ℕ) OrderError
after_piece count names None = Err (Truncated 0)
after_piece count names (Some found) = with_places names (places_in count 1 found.1)

abbrev pub after_names : ℕ → Names → Result (List (List ℕ) × List ℕ) OrderError
after_names count (Ok found) = after_piece count found.0 (number_at found.1)
after_names count (Err error) = Err error

abbrev pub after_count : Option (ℕ × List ℕ) → Result (List (List ℕ) × List ℕ) OrderError
after_count None = Err (Truncated 0)
after_count (Some found) = after_names found.0 (names_in found.0 1 None found.1)

-- the names of the sessions and, place by place, the number of the session, or the first fault of the bytes
abbrev pub order_at : List ℕ → Result (List (List ℕ) × List ℕ) OrderError
order_at bytes = if bytes_eq (take 8 bytes) opening then after_count (number_at (drop 8 bytes)) else Err Magic

-- ---- what can be written

-- each name may follow the one before it, and has no more bytes than a string may have
abbrev pub AreNames : Option (List ℕ) → List (List ℕ) → Type 0
AreNames last [] = Unit {0}
AreNames last (name ∷ names) =
    (length name < 2 ^ 32) × (may_follow last name ≡ true) × AreNames (Some name) names

-- each place is that of one of so many sessions
abbrev pub ArePlaces : ℕ → List ℕ → Type 0
ArePlaces count [] = Unit {0}
ArePlaces count (session ∷ places) = (session < 2 ^ 16) × (session < count) × ArePlaces count places

-- ---- what the code gives, unless memory runs out

-- names that were read, and what follows them
abbrev pub GivesNames : Result (List ℕ) OrderError → List (List ℕ) → Names → Type 0
GivesNames (Ok rest) names read = read ≡ Ok (names, rest)
GivesNames (Err NoMemory) names read = Unit {0}
GivesNames (Err Magic) names read = read ≡ Err Magic
GivesNames (Err (Truncated place)) names read = read ≡ Err (Truncated place)
GivesNames (Err (Name number)) names read = read ≡ Err (Name number)
GivesNames (Err (Session place)) names read = read ≡ Err (Session place)
GivesNames (Err (Part place)) names read = read ≡ Err (Part place)

abbrev pub GivesPlaces : Result (Unit {0}) OrderError → List ℕ → Result (List ℕ) OrderError → Type 0
GivesPlaces (Ok done) places read = read ≡ Ok places
GivesPlaces (Err NoMemory) places read = Unit {0}
GivesPlaces (Err Magic) places read = read ≡ Err Magic
GivesPlaces (Err (Truncated place)) places read = read ≡ Err (Truncated place)
GivesPlaces (Err (Name number)) places read = read ≡ Err (Name number)
GivesPlaces (Err (Session place)) places read = read ≡ Err (Session place)
GivesPlaces (Err (Part place)) places read = read ≡ Err (Part place)

abbrev pub GivesOrder : Result Order OrderError → Result (List (List ℕ) × List ℕ) OrderError → Type 0
GivesOrder (Ok order) read = read ≡ Ok (order.names.items, order.places.items)
GivesOrder (Err NoMemory) read = Unit {0}
GivesOrder (Err Magic) read = read ≡ Err Magic
GivesOrder (Err (Truncated place)) read = read ≡ Err (Truncated place)
GivesOrder (Err (Name number)) read = read ≡ Err (Name number)
GivesOrder (Err (Session place)) read = read ≡ Err (Session place)
GivesOrder (Err (Part place)) read = read ≡ Err (Part place)
