-- That each request has a reply which is allowed and can be encoded.
use Rattle.sftp_handles.proofs.Imports.{◌≡◌, ◌&&◌, not, nat_lt, ◌==◌, ℕ, zero, suc, ◌+◌, ◌-◌, ◌*◌, ◌/◌, ◌^◌, ◌<◌, ◌≤◌}
use Rattle.sftp_handles.proofs.Imports.{true, List, [], ◌∷◌, ◌++◌, length, Option, Some, None, refl, IsTrue, arith}
use Rattle.sftp_handles.proofs.Imports.{ltb-true, leb-true, lit<, and_parts, byte_at, bytes_high_first, list_all}
use Rattle.sftp_handles.proofs.Imports.{flat_map, mod-lt, length-append, length-take, AreBytes, FitsString, Name}
use Rattle.sftp_handles.proofs.Imports.{Place, place_cmp, absolute, is_name, place_cmp-same, are_bytes, Node, Tree}
use Rattle.sftp_handles.proofs.Imports.{IsKept, node_at, is_directory, depth_fits, each-get, each-all, fits-parts}
use Rattle.sftp_handles.proofs.Imports.{◌≢◌, sym, ap, ◌∙◌, w32, from_be_bytes, nat_list_cmp_total, Equal, uint32}
use Rattle.sftp_handles.proofs.Imports.{bytes_cmp, InOrder, size, bytes_cmp-same, InOrder-without, size-without}
use Rattle.sftp_handles.proofs.Imports.{get-without_elsewhere, Open, Handles, open_at, without_open}
use Rattle.sftp_path.specs.Place.{parent, are_names, is_name_byte}
use Rattle.std.proofs.lemmas.Nat.{from_be_bytes-to_be_bytes_4}
pub mod SaidReplies
pub mod PathReplies

-- ==== How long names and the texts of places are, and that they are bytes.

-- ---- bytes

-- bytes that a test finds to be bytes
pub bytes-by : (bytes : List ℕ) → are_bytes bytes ≡ true → AreBytes bytes
bytes-by [] is = tt
bytes-by (b ∷ bytes) is =
    let parts = and_parts (nat_lt b 256) (are_bytes bytes) is in
    (ltb-true b 256 parts.0, bytes-by bytes parts.1)

pub bytes-joined : (xs ys : List ℕ) → AreBytes xs → AreBytes ys → AreBytes (xs ++ ys)
bytes-joined [] ys all rest = rest
bytes-joined (x ∷ xs) ys all rest = (all.0, bytes-joined xs ys all.1 rest)

byte-small : (i n : ℕ) → byte_at i n < 256
byte-small zero n = mod-lt n (omega arith)
byte-small (suc i) n = mod-lt (n / 256 ^ suc i) (omega arith)

-- the bytes of a number
pub number-bytes : (count n : ℕ) → AreBytes (bytes_high_first count n)
number-bytes zero n = tt
number-bytes (suc count) n = (byte-small count n, number-bytes count n)

name-bytes : (name : List ℕ) → list_all is_name_byte name ≡ true → AreBytes name
name-bytes [] is = tt
name-bytes (b ∷ name) is =
    let parts = and_parts (is_name_byte b) (list_all is_name_byte name) is in
    let byte = and_parts (nat_lt b 256) (not (b == 0) && not (b == 47)) parts.0 in
    (ltb-true b 256 byte.0, name-bytes name parts.1)

-- ---- names, each after a `/`

pub name-parts : (name : Name) → is_name name ≡ true → (length name ≤ 255) × AreBytes name
name-parts name is = grind (arith, and_parts, leb-true, name-bytes)

abbrev behind_slash : Name → List ℕ
behind_slash name = 47 ∷ name

names-text : (place : Place) → are_names place ≡ true
    → (length (flat_map behind_slash place) ≤ 256 * length place) × AreBytes (flat_map behind_slash place)
names-text [] are = (omega arith, tt)
names-text (name ∷ place) are =
    let parts = and_parts (is_name name) (are_names place) are in
    let here = name-parts name parts.0 in
    let rest = names-text place parts.1 in (
      omega (arith, length-append (behind_slash name) (flat_map behind_slash place), here.0, rest.0),
      bytes-joined (behind_slash name) (flat_map behind_slash place) (lit< tt, here.1) rest.1,
    )

text-parts : (place : Place) → are_names place ≡ true
    → (length (absolute place) ≤ 256 * length place + 1) × AreBytes (absolute place)
text-parts [] are = (omega arith, (lit< tt, tt))
text-parts (name ∷ place) are = let all = names-text (name ∷ place) are in (omega (arith, all.0), all.1)

-- ---- the depth of a place

there : (found : Option Node) → is_directory found ≡ true → (node : Node) × (found ≡ Some node)
there None is = absurd cc
there (Some node) is = (node, refl)

directory-depth : (t : Tree) (place : Place) → IsKept t → is_directory (node_at t.names place) ≡ true
    → length place ≤ 64
directory-depth t place kept is =
    let found = there (node_at t.names place) is in
    let test = λ (e : Place × Node). depth_fits e.0 in
    leb-true (length place) 64
    (each-get place_cmp place_cmp-same (λ e. IsTrue (test e)) t.names place found.0
    (each-all test t.names (fits-parts t kept.within_limits).depths) found.1)

-- the text of a place whose parent is a directory can be written
pub text-fits : (t : Tree) (place : Place) → IsKept t → are_names place ≡ true
    → is_directory (node_at t.names (parent place)) ≡ true
    → FitsString (absolute place) × (length (absolute place) ≤ 16641)
text-fits t place kept are is =
    let deep = directory-depth t (parent place) kept is in
    let all = text-parts place are in
    let short : length (absolute place) ≤ 16641 = omega (arith, deep, all.0, length-take (length place - 1) place) in
    (record { bytes_fit = all.1; length_fits = omega (arith, short) }, short)

-- ==== A table with fewer than n handles leaves one of n names free.

-- names of different numbers are different
numbers-differ : (m n : ℕ) → n < m → m < 2 ^ 32 → bytes_cmp (uint32 m) (uint32 n) ≢ Equal
numbers-differ m n less bound same =
    let one : uint32 m ≡ uint32 n = bytes_cmp-same (uint32 m) (uint32 n) same in
    let number : m ≡ n =
    sym (from_be_bytes-to_be_bytes_4 m bound) ∙ ap (from_be_bytes w32) one
    ∙ from_be_bytes-to_be_bytes_4 n (omega (arith, less, bound)) in
    absurd (omega (arith, number, less))

-- one of the names of the numbers below n is not open
pub record HasFree (n : ℕ) (handles : Handles) : Type 0 where
  pub count : ℕ
  pub few : count < n
  pub absent : open_at handles (uint32 count) ≡ None

-- a name that is free when that of a larger number is closed is free before
still-free : (m : ℕ) (handles : Handles) → m < 2 ^ 32 → InOrder bytes_cmp handles
    → HasFree m (without_open handles (uint32 m)) → HasFree (suc m) handles
still-free m handles bound order free = record {
  count = free.count;
  few = omega (arith, free.few);
  absent =
      sym (get-without_elsewhere bytes_cmp nat_list_cmp_total handles (uint32 m) (uint32 free.count) order
      (numbers-differ m free.count free.few bound))
      ∙ free.absent;
}

-- by whether the name of the largest number is open
left-by : (m : ℕ) (handles : Handles) (found : Option Open) → m < 2 ^ 32 → InOrder bytes_cmp handles
    → size handles < suc m
    → ((less : Handles) → InOrder bytes_cmp less → size less < m → HasFree m less)
    → open_at handles (uint32 m) ≡ found → HasFree (suc m) handles
left-by m handles None bound order few left is = record { count = m; few = omega arith; absent = is }
left-by m handles (Some it) bound order few left is =
    let less = size-without bytes_cmp handles (uint32 m) it is in
    still-free m handles bound order
    (left (without_open handles (uint32 m)) (InOrder-without bytes_cmp handles (uint32 m) order)
    (omega (arith, few, less)))

pub name-left : (n : ℕ) (handles : Handles) → n ≤ 2 ^ 32 → InOrder bytes_cmp handles → size handles < n
    → HasFree n handles
name-left zero handles bound order few = absurd (omega (arith, few))
name-left (suc m) handles bound order few =
    left-by m handles (open_at handles (uint32 m)) (omega (arith, bound)) order few
    (λ less. name-left m less (omega (arith, bound))) refl
