-- What is read of names and of places, step by step.
use Rattle.std.proofs.Common.{◌≡◌, ℕ, zero, suc, ◌+◌, ◌-◌, ◌^◌, ◌<◌, ◌≤◌, List, [], ◌∷◌, ◌++◌, length, drop, flat_map, refl, sym, ap, ◌∙◌, arith, append_assoc}
use Rattle.std.specs.Prelude.{Result, Ok, Err, Option, Some, None, nat_lt, true, if◌then◌else◌, Bool, take}
use Rattle.std.specs.Int.{w16, w32, from_be_bytes, to_be_bytes}
use Rattle.std.proofs.lemmas.Bool.{le-ltb, lt-ltb, cond-true, cond-false}
use Rattle.std.proofs.lemmas.List.{length-drop, length-append, append-nil}
use Rattle.std.proofs.lemmas.Nat.{from_be_bytes-to_be_bytes_2, from_be_bytes-to_be_bytes_4}
use Rattle.std.proofs.Math.Seq.{take-append_seam, drop-append_seam}
use Rattle.sftp_strings.specs.Strings.{uint32, string}
use Rattle.sftp_orders.specs.declared.errors.OrderError.{OrderError}
use Rattle.sftp_orders.specs.declared.errors.OrderError.TheVariants.{Magic, Truncated, Name, Session, Part, NoMemory}
use Rattle.sftp_orders.specs.Orders.{Names, names_in, name_at, named, prepend, followed, GivesNames, number_at, bytes_of, string_at, may_follow}
use Rattle.sftp_orders.specs.Orders.{places_in, places_within, place_at, place_text, placed, behind, then_places, GivesPlaces}
use Rattle.sftp_orders.specs.Orders.{AreNames, ArePlaces, spelled, order_at, after_count, after_names, after_piece, with_places}

-- ---- names

prepend-none : (read : Names) → read ≡ prepend [] read
prepend-none (Ok found) = refl
prepend-none (Err error) = refl

prepend-more : (xs ys : List (List ℕ)) (read : Names) → prepend xs (prepend ys read) ≡ prepend (xs ++ ys) read
prepend-more xs ys (Ok found) = ap (λ (zs : List (List ℕ)). Ok (zs, found.1)) (sym (append_assoc xs ys found.0))
prepend-more xs ys (Err error) = refl

names-next : (left number : ℕ) (last : Option (List ℕ)) (bytes name rest : List ℕ) → 0 < left
    → name_at number last bytes ≡ Ok (name, rest)
    → names_in left number last bytes ≡ prepend (name ∷ []) (names_in (left - 1) (suc number) (Some name) rest)
unfolding names_in
names-next zero number last bytes name rest lt is = absurd (omega (arith, lt))
names-next (suc left) number last bytes name rest lt is =
    let less : suc left - 1 ≡ left = omega arith in
    rw less (ap (λ read. followed read (λ name rest. names_in left (suc number) (Some name) rest)) is)

names-stop : (left number : ℕ) (last : Option (List ℕ)) (bytes : List ℕ) (error : OrderError) → 0 < left
    → name_at number last bytes ≡ Err error → names_in left number last bytes ≡ Err error
unfolding names_in
names-stop zero number last bytes error lt is = absurd (omega (arith, lt))
names-stop (suc left) number last bytes error lt is =
    ap (λ read. followed read (λ name rest. names_in left (suc number) (Some name) rest)) is

names-none : (number : ℕ) (last : Option (List ℕ)) (bytes : List ℕ) → names_in 0 number last bytes ≡ Ok ([], bytes)
unfolding names_in
names-none number last bytes = refl

-- nothing is read yet
pub names_start : (read : Names) → read ≡ prepend [] read
names_start read = prepend-none read

-- a name more
pub names_kept : (names more : List (List ℕ)) (left : ℕ) (last : Option (List ℕ)) (bytes name rest : List ℕ) (read : Names)
    → read ≡ prepend names (names_in left (suc (length names)) last bytes) → 0 < left
    → name_at (suc (length names)) last bytes ≡ Ok (name, rest) → more ≡ names ++ (name ∷ [])
    → read ≡ prepend more (names_in (left - 1) (suc (length more)) (Some name) rest)
names_kept names more left last bytes name rest read kept lt is more_is =
    let longer : length (names ++ (name ∷ [])) ≡ suc (length names) = length-append names (name ∷ []) ∙ omega arith in
    let step = names-next left (suc (length names)) last bytes name rest lt is in
    rw more_is (rw longer (kept ∙ ap (prepend names) step
    ∙ prepend-more names (name ∷ []) (names_in (left - 1) (suc (suc (length names))) (Some name) rest)))

-- no name more
pub names_end : (names : List (List ℕ)) (left number : ℕ) (last : Option (List ℕ)) (rest : List ℕ) (read : Names)
    → read ≡ prepend names (names_in left number last rest) → left ≡ 0 → read ≡ Ok (names, rest)
names_end names left number last rest read kept none =
    kept ∙ ap (λ (n : ℕ). prepend names (names_in n number last rest)) none
    ∙ ap (prepend names) (names-none number last rest)
    ∙ ap (λ (zs : List (List ℕ)). Ok (zs, rest)) (append-nil names)

gives : (error : OrderError) (names : List (List ℕ)) (read : Names) → read ≡ Err error → GivesNames (Err error) names read
gives Magic names read is = is
gives (Truncated place) names read is = is
gives (Name number) names read is = is
gives (Session place) names read is = is
gives (Part place) names read is = is
gives NoMemory names read is = tt

-- a fault
pub names_fault : (names now : List (List ℕ)) (left number : ℕ) (last : Option (List ℕ)) (bytes : List ℕ) (error : OrderError)
    (read : Names) → read ≡ prepend names (names_in left number last bytes) → 0 < left
    → name_at number last bytes ≡ Err error → GivesNames (Err error) now read
names_fault names now left number last bytes error read kept lt is =
    gives error now read (kept ∙ ap (prepend names) (names-stop left number last bytes error lt is))

-- ---- places

behind-none : (read : Result (List ℕ) OrderError) → read ≡ behind [] read
behind-none (Ok places) = refl
behind-none (Err error) = refl

behind-more : (xs ys : List ℕ) (read : Result (List ℕ) OrderError) → behind xs (behind ys read) ≡ behind (xs ++ ys) read
behind-more xs ys (Ok places) = ap Ok (sym (append_assoc xs ys places))
behind-more xs ys (Err error) = refl

-- how many places there may be does not matter, if they are enough
enough : (most more count number : ℕ) (bytes : List ℕ) → length bytes ≤ most → length bytes ≤ more
    → places_within most count number bytes ≡ places_within more count number bytes
enough most more count number [] p q = refl
enough zero more count number (b ∷ bytes) p q = absurd (omega (arith, p))
enough (suc most) zero count number (b ∷ bytes) p q = absurd (omega (arith, q))
enough (suc most) (suc more) count number (b ∷ bytes) p q =
    let shorter = length-drop 4 (b ∷ bytes) in
    ap (then_places (place_at count number (b ∷ bytes)))
    (enough most more count (suc number) (drop 4 (b ∷ bytes)) (omega (arith, p, shorter)) (omega (arith, q, shorter)))

places-front : (count number : ℕ) (bytes : List ℕ) → 0 < length bytes
    → places_in count number bytes ≡ then_places (place_at count number bytes) (places_in count (suc number) (drop 4 bytes))
unfolding places_in
places-front count number [] lt = absurd (omega (arith, lt))
places-front count number (b ∷ bytes) lt =
    let shorter = length-drop 4 (b ∷ bytes) in
    ap (then_places (place_at count number (b ∷ bytes)))
    (enough (length bytes) (length (drop 4 (b ∷ bytes))) count (suc number) (drop 4 (b ∷ bytes))
    (omega (arith, shorter)) (omega arith))

places-none : (count number : ℕ) → places_in count number [] ≡ Ok []
unfolding places_in
places-none count number = refl

-- nothing is read yet
pub places_start : (read : Result (List ℕ) OrderError) → read ≡ behind [] read
places_start read = behind-none read

-- a place more
pub places_kept : (places more : List ℕ) (count session : ℕ) (rest then_rest : List ℕ) (read : Result (List ℕ) OrderError)
    → read ≡ behind places (places_in count (suc (length places)) rest) → 0 < length rest
    → place_at count (suc (length places)) rest ≡ Ok session → more ≡ places ++ (session ∷ []) → then_rest ≡ drop 4 rest
    → read ≡ behind more (places_in count (suc (length more)) then_rest)
places_kept places more count session rest then_rest read kept lt is more_is rest_is =
    let longer : length (places ++ (session ∷ [])) ≡ suc (length places) =
    length-append places (session ∷ []) ∙ omega arith in
    let step = places-front count (suc (length places)) rest lt
    ∙ ap (λ found. then_places found (places_in count (suc (suc (length places))) (drop 4 rest))) is in
    rw more_is (rw rest_is (rw longer (kept ∙ ap (behind places) step
    ∙ behind-more places (session ∷ []) (places_in count (suc (suc (length places))) (drop 4 rest)))))

-- no place more
pub places_end : (places : List ℕ) (count number : ℕ) (rest : List ℕ) (read : Result (List ℕ) OrderError)
    → read ≡ behind places (places_in count number rest) → length rest ≡ 0 → read ≡ Ok places
places_end places count number [] read kept none =
    kept ∙ ap (behind places) (places-none count number) ∙ ap Ok (append-nil places)
places_end places count number (b ∷ bytes) read kept none = absurd (omega (arith, none))

gives_places : (error : OrderError) (places : List ℕ) (read : Result (List ℕ) OrderError) → read ≡ Err error
    → GivesPlaces (Err error) places read
gives_places Magic places read is = is
gives_places (Truncated place) places read is = is
gives_places (Name number) places read is = is
gives_places (Session place) places read is = is
gives_places (Part place) places read is = is
gives_places NoMemory places read is = tt

-- a fault
pub places_fault : (places now : List ℕ) (count number : ℕ) (rest : List ℕ) (error : OrderError)
    (read : Result (List ℕ) OrderError) → read ≡ behind places (places_in count number rest) → 0 < length rest
    → place_at count number rest ≡ Err error → GivesPlaces (Err error) now read
places_fault places now count number rest error read kept lt is =
    gives_places error now read (kept ∙ ap (behind places) (places-front count number rest lt
    ∙ ap (λ found. then_places found (places_in count (suc number) (drop 4 rest))) is))

-- ---- what is written is read

number-read : (n : ℕ) (rest : List ℕ) → n < 2 ^ 32 → number_at (uint32 n ++ rest) ≡ Some (n, rest)
number-read n rest fits =
    let long = cond-false (nat_lt (length (uint32 n ++ rest)) 4) None (Some (from_be_bytes w32 (to_be_bytes w32 n), rest))
    (le-ltb (length (uint32 n ++ rest)) 4 (omega arith)) in
    long ∙ ap (λ (m : ℕ). Some (m, rest)) (from_be_bytes-to_be_bytes_4 n fits)

string-read : (name rest : List ℕ) → length name < 2 ^ 32 → string_at (string name ++ rest) ≡ Some (name, rest)
string-read name rest fits =
    let size : length (name ++ rest) ≡ length name + length rest = length-append name rest in
    let whole = cond-false (nat_lt (length (name ++ rest)) (length name)) None
    (Some (take (length name) (name ++ rest), drop (length name) (name ++ rest)))
    (le-ltb (length (name ++ rest)) (length name) (omega (arith, size))) in
    ap bytes_of (number-read (length name) (name ++ rest) fits) ∙ whole
    ∙ ap (λ (xs : List ℕ). Some (xs, drop (length name) (name ++ rest))) (take-append_seam name rest)
    ∙ ap (λ (xs : List ℕ). Some (name, xs)) (drop-append_seam name rest)

name-read : (number : ℕ) (last : Option (List ℕ)) (name rest : List ℕ) → length name < 2 ^ 32
    → may_follow last name ≡ true → name_at number last (string name ++ rest) ≡ Ok (name, rest)
name-read number last name rest fits follows =
    ap (named number last) (string-read name rest fits)
    ∙ ap (λ (b : Bool). if b then Ok (name, rest) else Err (Name number)) follows

names-read : (number : ℕ) (last : Option (List ℕ)) (names : List (List ℕ)) (rest : List ℕ) → AreNames last names
    → names_in (length names) number last (flat_map string names ++ rest) ≡ Ok (names, rest)
unfolding names_in
names-read number last [] rest are = refl
names-read number last (name ∷ names) rest are =
    let shape : flat_map string (name ∷ names) ++ rest ≡ string name ++ (flat_map string names ++ rest) =
    append_assoc (string name) (flat_map string names) rest in
    ap (λ (bytes : List ℕ). names_in (suc (length names)) number last bytes) shape
    ∙ ap (λ read. followed read (λ name rest. names_in (length names) (suc number) (Some name) rest))
    (name-read number last name (flat_map string names ++ rest) are.0 are.1)
    ∙ ap (prepend (name ∷ [])) (names-read (suc number) (Some name) names rest are.2)

place-read : (count number session : ℕ) (rest : List ℕ) → session < 2 ^ 16 → session < count
    → place_at count number (place_text session ++ rest) ≡ Ok session
place-read count number session rest fits there =
    let read = from_be_bytes w16 (to_be_bytes w16 session) in
    let long = cond-false (nat_lt (length (place_text session ++ rest)) 4) (Err (Truncated number))
    (placed count number read 0) (le-ltb (length (place_text session ++ rest)) 4 (omega arith)) in
    long ∙ ap (λ (n : ℕ). placed count number n 0) (from_be_bytes-to_be_bytes_2 session fits)
    ∙ cond-true (nat_lt session count) (Ok session) (Err (Session number)) (lt-ltb session count there)

places-read : (count number : ℕ) (places : List ℕ) → ArePlaces count places
    → places_in count number (flat_map place_text places) ≡ Ok places
places-read count number [] are = places-none count number
places-read count number (session ∷ places) are =
    places-front count number (place_text session ++ flat_map place_text places) (omega arith)
    ∙ ap (λ found. then_places found (places_in count (suc number) (flat_map place_text places)))
    (place-read count number session (flat_map place_text places) are.0 are.1)
    ∙ ap (behind (session ∷ [])) (places-read count (suc number) places are.2)

pub orders-read : (names : List (List ℕ)) (piece : ℕ) (places : List ℕ) → length names < 2 ^ 32 → piece < 2 ^ 32
    → AreNames None names → ArePlaces (length names) places → order_at (spelled names piece places) ≡ Ok (names, places)
orders-read names piece places few small are_names are_places =
    let end = uint32 piece ++ flat_map place_text places in
    let count = length names in
    ap after_count (number-read count (flat_map string names ++ end) few)
    ∙ ap (after_names count) (names-read 1 None names end are_names)
    ∙ ap (after_piece count names) (number-read piece (flat_map place_text places) small)
    ∙ ap (with_places names) (places-read count 1 places are_places)
