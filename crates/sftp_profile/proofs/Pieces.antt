-- A file that is read piece by piece: what is compared of each piece, and what is left.
use Rattle.std.proofs.Common.{◌≡◌, ◌≤◌, ◌<◌, ◌+◌, ◌-◌, ◌∙◌, ℕ, zero, suc, Bool, true, false, List, [], ◌∷◌, Some}
use Rattle.std.proofs.Common.{None, length, take, drop, refl, sym, ap, subst, IsTrue, arith, length-drop, leb-true}
use Rattle.std.proofs.Common.{◌==◌, Option, Result, Ok, Err, ◌++◌}
use Rattle.std.specs.Prelude.{◌&&◌, ◌||◌, not, min, nat_eq, nat_le, nat_lt, if◌then◌else◌}
use Rattle.std.proofs.lemmas.List.{length-take, drop-take}
use Rattle.std.proofs.Math.Seq.{drop-nil}
use Rattle.std.proofs.lemmas.Bool.{ltb-true, le-leb, le-ltb}
use Rattle.sftp_packets.specs.declared.requests.Ask.TheVariants.{Read, Fstat}
use Rattle.sftp_treefile.specs.declared.limits.TreeLimits.{TreeLimits}
use Rattle.sftp_path.specs.Place.{same_bytes}
use Rattle.sftp_tree.specs.declared.causes.Cause.{Cause}
use Rattle.sftp_tree.specs.declared.causes.Cause.TheVariants.{NotOpenFor}
use Rattle.sftp_tree.specs.Tree.{Tree, limits}
use Rattle.sftp_tree.specs.PlaceCauses.{no_causes, when, only, is_none}
use Rattle.sftp_tree.proofs.CauseLaws.{none-each}
use Rattle.sftp_handles.specs.State.{State}
use Rattle.sftp_handles.specs.State.{Seen, absent, other_kind, something, file, listing, a_file, seen}
use Rattle.sftp_handles.specs.RequestRows.{row_of, causes_of, may_read}
use Rattle.sftp_handles.specs.Allowed.{causes}
use Rattle.sftp_profile.specs.BytesRead.{Goes, is_count, most, is_readable, stand_in, piece_of, size_of}
use Rattle.std.proofs.Math.Dec.{eqb-suc-zero}
use Rattle.sftp_packets.specs.declared.errors.Fault.{Fault}
use Rattle.sftp_packets.specs.declared.errors.Fault.TheVariants.{Short}
use Rattle.sftp_packets.specs.declared.requests.Ask.{Ask}
use Rattle.sftp_packets.specs.declared.requests.Ask.TheVariants as asks
use Rattle.sftp_packets.specs.declared.packets.Packet.{Packet}
use Rattle.sftp_packets.specs.declared.packets.Packet.TheVariants.{Request}
use Rattle.sftp_packets.specs.Reading.{◌>>=◌, two, uint32_at, string_at, attributes_at}
use Rattle.sftp_packets.specs.Packets.{client_packet_at}
use Rattle.sftp_profile.specs.Replaced.{whole, ask_in}
use Rattle.sftp_profile.specs.Replaced.{setstat_in}
use Rattle.std.proofs.Math.Nat.{sub-zero}
use Rattle.sftp_profile.specs.Departures.{bytes_from, bytes_within, copied_count}

-- ---- lists

and-assoc : (a b c : Bool) → (a && (b && c)) ≡ ((a && b) && c)
and-assoc true b c = refl
and-assoc false b c = refl

same-split : (n : ℕ) (xs ys : List ℕ)
    → same_bytes xs ys ≡ (same_bytes (take n xs) (take n ys) && same_bytes (drop n xs) (drop n ys))
same-split zero xs ys = refl
same-split (suc n) [] [] = refl
same-split (suc n) [] (y ∷ ys) = refl
same-split (suc n) (x ∷ xs) [] = refl
same-split (suc n) (x ∷ xs) (y ∷ ys) =
    ap (λ b. nat_eq x y && b) (same-split n xs ys) ∙ and-assoc (nat_eq x y) _ _

take-of_take : (n m : ℕ) (xs : List ℕ) → n ≤ m → take n (take m xs) ≡ take n xs
take-of_take zero m xs few = refl
take-of_take (suc n) zero xs few = absurd (omega (arith, few))
take-of_take (suc n) (suc m) [] few = refl
take-of_take (suc n) (suc m) (x ∷ xs) few = ap (λ l. x ∷ l) (take-of_take n m xs (omega (arith, few)))

pub drop-of_drop : (n m k : ℕ) (xs : List ℕ) → k ≡ m + n → drop n (drop m xs) ≡ drop k xs
drop-of_drop n zero k xs is = ap (λ j. drop j xs) (omega (arith, is))
drop-of_drop n (suc m) k [] is = drop-nil n ∙ sym (drop-nil k)
drop-of_drop n (suc m) zero (x ∷ xs) is = absurd (omega (arith, is))
drop-of_drop n (suc m) (suc k) (x ∷ xs) is = drop-of_drop n m k xs (omega (arith, is))

drop-of_take : (n r : ℕ) (xs : List ℕ) → n ≤ r → drop n (take r xs) ≡ take (r - n) (drop n xs)
drop-of_take n r xs few =
    ap (λ k. drop n (take k xs)) (omega (arith, few)) ∙ drop-take n (r - n) xs

-- ---- a piece

module _ (most at count : ℕ) (rest bytes piece : List ℕ) (is_piece : piece ≡ take most (drop at bytes))
    (counted : count ≡ min (length piece) (length rest)) where
  few-rest : count ≤ length rest
  few-rest = omega (arith, counted)

  few-most : count ≤ most
  few-most =
      let taken : length piece ≡ min most (length (drop at bytes)) =
      ap length is_piece ∙ length-take most (drop at bytes) in
      omega (arith, counted, taken)

  same-front : take count (take (length rest) (drop at bytes)) ≡ take count piece
  same-front =
      take-of_take count (length rest) (drop at bytes) few-rest
      ∙ (sym (take-of_take count most (drop at bytes) few-most) ∙ ap (take count) (sym is_piece))

  same-behind : drop count (take (length rest) (drop at bytes))
      ≡ take (length (drop count rest)) (drop (at + count) bytes)
  same-behind =
      drop-of_take count (length rest) (drop at bytes) few-rest
      ∙ (ap (λ n. take n (drop count (drop at bytes))) (sym (length-drop count rest))
      ∙ ap (take (length (drop count rest))) (drop-of_drop count at (at + count) bytes refl))

  split : same_bytes rest (take (length rest) (drop at bytes))
      ≡ (same_bytes (take count rest) (take count piece)
      && same_bytes (drop count rest) (take (length (drop count rest)) (drop (at + count) bytes)))
  split =
      same-split count rest (take (length rest) (drop at bytes))
      ∙ (λ i. same_bytes (take count rest) (same-front i) && same_bytes (drop count rest) (same-behind i))

-- ---- of what a handle is open on

-- the piece is as the bytes are, so the rest decides
pub pieces-right : (bounds : TreeLimits) (at count : ℕ) (found : Seen) (rest piece : List ℕ)
    → piece ≡ piece_of bounds at found → count ≡ min (length piece) (length rest)
    → same_bytes (take count rest) (take count piece) ≡ true
    → stand_in at found rest ≡ stand_in (at + count) found (drop count rest)
pieces-right bounds at count (file number flags content) rest piece is_piece counted same =
    split _ at count rest content.bytes piece is_piece counted
    ∙ ap
    (λ b. b && same_bytes (drop count rest) (take (length (drop count rest)) (drop (at + count) content.bytes))) same
pieces-right bounds at count absent rest piece is_piece counted same = refl
pieces-right bounds at count other_kind rest piece is_piece counted same = refl
pieces-right bounds at count something rest piece is_piece counted same = refl
pieces-right bounds at count (listing left) rest piece is_piece counted same = refl

-- the piece is not as the bytes are
pub pieces-wrong : (bounds : TreeLimits) (at count : ℕ) (found : Seen) (rest piece : List ℕ)
    → piece ≡ piece_of bounds at found → count ≡ min (length piece) (length rest)
    → same_bytes (take count rest) (take count piece) ≡ false
    → stand_in at found rest ≡ false
pieces-wrong bounds at count (file number flags content) rest piece is_piece counted other =
    split _ at count rest content.bytes piece is_piece counted
    ∙ ap
    (λ b. b && same_bytes (drop count rest) (take (length (drop count rest)) (drop (at + count) content.bytes))) other
pieces-wrong bounds at count absent rest piece is_piece counted other = refl
pieces-wrong bounds at count other_kind rest piece is_piece counted other = refl
pieces-wrong bounds at count something rest piece is_piece counted other = refl
pieces-wrong bounds at count (listing left) rest piece is_piece counted other = refl

pub piece-goes : (bounds : TreeLimits) (at count : ℕ) (found : Seen) (rest piece : List ℕ)
    → IsTrue (is_readable found (at + length rest)) → 0 < length rest → 0 < length piece
    → piece ≡ piece_of bounds at found → count ≡ min (length piece) (length rest)
    → same_bytes (take count rest) (take count piece) ≡ true → Goes at found rest count
piece-goes bounds at count found rest piece there some has is_piece counted same = record {
  some = omega (arith, some, has, counted);
  few = omega (arith, counted);
  there =
      subst (λ n. IsTrue (is_readable found n))
      (let left : length (drop count rest) ≡ length rest - count = length-drop count rest in
      omega (arith, left, counted)) there;
  decides = sym (pieces-right bounds at count found rest piece is_piece counted same);
}

both : (a b : Bool) → IsTrue (a && b) → IsTrue a × IsTrue b
both true true is = (refl, refl)
both true false is = absurd cc
both false b is = absurd cc

may-of : (may inside : Bool) → IsTrue (may && inside) → may ≡ true
may-of may inside is = (both may inside is).0

inside-of : (may : Bool) (end size : ℕ) → IsTrue (may && nat_le end size) → end ≤ size
inside-of may end size is = leb-true end size (both may (nat_le end size) is).1

-- one byte is left where some are
pub readable-fewer : (found : Seen) (at count : ℕ) → 0 < count → IsTrue (is_readable found (at + count))
    → IsTrue (is_readable found (at + 1))
readable-fewer (file number flags content) at count some is =
    let may : may_read flags ≡ true = may-of (may_read flags) (nat_le (at + count) (length content.bytes)) is in
    let all : at + count ≤ length content.bytes =
    inside-of (may_read flags) (at + count) (length content.bytes) is in
    let one : nat_le (at + 1) (length content.bytes) ≡ true =
    le-leb (at + 1) (length content.bytes) (omega (arith, all, some)) in
    (λ i. may i && one i)
readable-fewer absent at count some is = absurd cc
readable-fewer other_kind at count some is = absurd cc
readable-fewer something at count some is = absurd cc
readable-fewer (listing left) at count some is = absurd cc

-- ---- what the session says of a file that is open to be read

and-false : (b : Bool) → (b && false) ≡ false
and-false true = refl
and-false false = refl

never-refused : (t : Tree) (handle : List ℕ) (at len end : ℕ) (found : Seen) (c : Cause)
    → IsTrue (is_readable found end) → causes_of t (row_of (Read handle at len)) found c ≡ false
unfolding when no_causes
never-refused t handle at len end (file number flags content) c is =
    ap (λ b. only NotOpenFor c && not b || false) (may-of (may_read flags) (nat_le end (length content.bytes)) is)
    ∙ ap (λ b. b || false) (and-false (only NotOpenFor c))
never-refused t handle at len end absent c is = absurd cc
never-refused t handle at len end other_kind c is = absurd cc
never-refused t handle at len end something c is = absurd cc
never-refused t handle at len end (listing left) c is = absurd cc

-- no cause refuses a READ of it
pub pieces-free : (s : State) (handle : List ℕ) (at len end : ℕ) (c : Cause)
    → IsTrue (is_readable (seen s a_file handle) end) → causes s (Read handle at len) c ≡ false
unfolding causes
pieces-free s handle at len end c is = never-refused s.tree handle at len end (seen s a_file handle) c is

pub not-both : (a b : Bool) → (a && not b || false) ≡ false → a ≡ true → b ≡ true
not-both true true is holds = refl
not-both true false is holds = absurd cc
not-both false b is holds = absurd cc

pub some-is : (a b : ℕ) → Some a ≡ Some b → a ≡ b
some-is a b is = cc

counted-of : (bounds : TreeLimits) (size offset len count : ℕ) → IsTrue (is_count bounds size offset len count)
    → (0 < count) × (count ≤ min len (size - offset))
counted-of bounds size offset len count is =
    let first =
    both (nat_lt 0 count)
    (nat_le count (most size offset len) && nat_le (min (most size offset len) bounds.read_bytes) count) is in
    let second =
    both (nat_le count (most size offset len)) (nat_le (min (most size offset len) bounds.read_bytes) count) first.1 in
    (ltb-true 0 count first.0, leb-true count (min len (size - offset)) second.0)

-- what a READ gives is bounded by the size of the file
pub counted-fits : (bounds : TreeLimits) (size offset len count : ℕ) → IsTrue (is_count bounds size offset len count)
    → offset + count ≤ size
counted-fits bounds size offset len count is =
    let counts : (0 < count) × (count ≤ min len (size - offset)) =
    counted-of bounds size offset len count is in
    let some : 0 < count = counts.0 in
    let few : count ≤ min len (size - offset) = counts.1 in
    omega (arith, some, few)

readable-by : (t : Tree) (handle : List ℕ) (offset len size count : ℕ) (found : Seen)
    → causes_of t (row_of (Read handle offset len)) found NotOpenFor ≡ false → size_of found ≡ Some size
    → IsTrue (is_count (limits t) size offset len count) → IsTrue (is_readable found (offset + count))
unfolding when no_causes
readable-by t handle offset len size count (file number flags content) free sized counted =
    let may : may_read flags ≡ true = not-both (only NotOpenFor NotOpenFor) (may_read flags) free refl in
    let counts : (0 < count) × (count ≤ min len (size - offset)) =
    counted-of (limits t) size offset len count counted in
    let some : 0 < count = counts.0 in
    let few : count ≤ min len (size - offset) = counts.1 in
    let length_is : length content.bytes ≡ size = some-is (length content.bytes) size sized in
    let within : nat_le (offset + count) (length content.bytes) ≡ true =
    le-leb (offset + count) (length content.bytes) (omega (arith, some, few, length_is)) in
    (λ i. may i && within i)
readable-by t handle offset len size count absent free sized counted = absurd cc
readable-by t handle offset len size count other_kind free sized counted = absurd cc
readable-by t handle offset len size count something free sized counted = absurd cc
readable-by t handle offset len size count (listing left) free sized counted = absurd cc

-- a READ that no cause refuses, of a file of this size
pub readable-file : (s : State) (handle : List ℕ) (offset len size count : ℕ)
    → IsTrue (is_none (causes s (Read handle offset len))) → size_of (seen s a_file handle) ≡ Some size
    → IsTrue (is_count (limits s.tree) size offset len count)
    → IsTrue (is_readable (seen s a_file handle) (offset + count))
unfolding causes
readable-file s handle offset len size count free sized counted =
    readable-by s.tree handle offset len size count (seen s a_file handle)
    (none-each (causes s (Read handle offset len)) free NotOpenFor) sized counted

-- ---- of its size

no-size : (t : Tree) (handle : List ℕ) (found : Seen) (c : Cause)
    → IsTrue (causes_of t (row_of (Fstat handle)) found c) → None ≡ size_of found
unfolding no_causes
no-size t handle (file number flags content) c is = absurd cc
no-size t handle absent c is = refl
no-size t handle other_kind c is = refl
no-size t handle something c is = refl
no-size t handle (listing left) c is = refl

pub refused-size : (s : State) (handle : List ℕ) (c : Cause) → IsTrue (causes s (Fstat handle) c)
    → None ≡ size_of (seen s a_file handle)
unfolding causes
refused-size s handle c is = no-size s.tree handle (seen s a_file handle) c is

-- ==== The fields of extensions, as the code reads them.

-- the request with the id 0
abbrev behind_id : Result (Ask × List ℕ) Fault → Result (Packet × List ℕ) Fault
behind_id read = read >>= (λ ask. Ok (Request (record { id = 0; ask = ask.0 }), ask.1))

abbrev asked_by : Result (Packet × List ℕ) Fault → Option Ask
asked_by (Ok read) = ask_in read.0 (length read.1 == 0)
asked_by (Err fault) = None

-- four zeros are read as the id 0
read-zeros : (rest : List ℕ) → uint32_at (0 ∷ 0 ∷ 0 ∷ 0 ∷ rest) ≡ Ok (0, rest)
unfolding uint32_at
read-zeros rest =
    let long : nat_lt (length (0 ∷ 0 ∷ 0 ∷ 0 ∷ rest)) 4 ≡ false =
    le-ltb (suc (suc (suc (suc (length rest))))) 4 (omega arith) in
    (λ i. if long i then Err Short else Ok (0, rest))

read-behind_id : (rest : List ℕ) → client_packet_at 9 (0 ∷ 0 ∷ 0 ∷ 0 ∷ rest)
    ≡ behind_id (two string_at attributes_at asks.Setstat rest)
unfolding client_packet_at
read-behind_id rest =
    ap (λ read. read >>= (λ id. two string_at attributes_at asks.Setstat id.1
    >>= (λ ask. Ok (Request (record { id = id.0; ask = ask.0 }), ask.1)))) (read-zeros rest)

asked-whole : (read : Result (Ask × List ℕ) Fault) → asked_by (behind_id read) ≡ whole read
asked-whole (Ok (ask, [])) = refl
asked-whole (Ok (ask, b ∷ bytes)) = ap (ask_in (Request (record { id = 0; ask = ask }))) (eqb-suc-zero (length bytes))
asked-whole (Err fault) = refl

-- a packet that was read behind an id, or a fault
pub setstat-read : (rest body : List ℕ) (read : Result (Packet × List ℕ) Fault) → body ≡ 0 ∷ 0 ∷ 0 ∷ 0 ∷ rest
    → client_packet_at 9 body ≡ read → asked_by read ≡ setstat_in rest
unfolding setstat_in
setstat-read rest body read body_is is =
    ap asked_by (sym is)
    ∙ (ap (λ b. asked_by (client_packet_at 9 b)) body_is
    ∙ (ap asked_by (read-behind_id rest) ∙ asked-whole (two string_at attributes_at asks.Setstat rest)))

-- ==== Bytes of a file that are copied piece by piece.

-- ---- how much is copied

within-by : (all : Bool) (size offset len count : ℕ)
    → count ≡ (if all then size - offset else min len (size - offset)) → 0 < count → offset + count ≤ size
within-by true size offset len count is some = omega (arith, is, some)
within-by false size offset len count is some = omega (arith, is, some)

-- what is copied is within the file
pub copied-within : (size offset len count : ℕ) → count ≡ copied_count size offset len → 0 < count
    → offset + count ≤ size
copied-within size offset len count is some = within-by (len == 0) size offset len count is some

readable-to : (t : Tree) (handle : List ℕ) (offset len size end : ℕ) (found : Seen)
    → causes_of t (row_of (Read handle offset len)) found NotOpenFor ≡ false → size_of found ≡ Some size
    → end ≤ size → IsTrue (is_readable found end)
unfolding when no_causes
readable-to t handle offset len size end (file number flags content) free sized few =
    let may : may_read flags ≡ true = not-both (only NotOpenFor NotOpenFor) (may_read flags) free refl in
    let length_is : length content.bytes ≡ size = some-is (length content.bytes) size sized in
    let within : nat_le end (length content.bytes) ≡ true =
    le-leb end (length content.bytes) (omega (arith, few, length_is)) in
    (λ i. may i && within i)
readable-to t handle offset len size end absent free sized few = absurd cc
readable-to t handle offset len size end other_kind free sized few = absurd cc
readable-to t handle offset len size end something free sized few = absurd cc
readable-to t handle offset len size end (listing left) free sized few = absurd cc

-- a file that may be read, up to an end
pub readable-up_to : (s : State) (handle : List ℕ) (offset len size end : ℕ)
    → IsTrue (is_none (causes s (Read handle offset len))) → size_of (seen s a_file handle) ≡ Some size
    → end ≤ size → IsTrue (is_readable (seen s a_file handle) end)
unfolding causes
readable-up_to s handle offset len size end free sized few =
    readable-to s.tree handle offset len size end (seen s a_file handle)
    (none-each (causes s (Read handle offset len)) free NotOpenFor) sized few

-- ---- what is copied

pub no-file : (found : Seen) (offset len : ℕ) → size_of found ≡ None → [] ≡ bytes_from found offset len
no-file (file number flags content) offset len none = absurd cc
no-file absent offset len none = refl
no-file other_kind offset len none = refl
no-file something offset len none = refl
no-file (listing left) offset len none = refl

pub counted-bytes : (found : Seen) (size offset len count : ℕ) → size_of found ≡ Some size
    → count ≡ copied_count size offset len → bytes_within found offset count ≡ bytes_from found offset len
counted-bytes (file number flags content) size offset len count sized is =
    let length_is : length content.bytes ≡ size = some-is (length content.bytes) size sized in
    ap (λ n. take n (drop offset content.bytes)) (is ∙ ap (λ n. copied_count n offset len) (sym length_is))
counted-bytes absent size offset len count sized is = absurd cc
counted-bytes other_kind size offset len count sized is = absurd cc
counted-bytes something size offset len count sized is = absurd cc
counted-bytes (listing left) size offset len count sized is = absurd cc

pub none-within : (found : Seen) (offset : ℕ) → bytes_within found offset 0 ≡ []
none-within (file number flags content) offset = refl
none-within absent offset = refl
none-within other_kind offset = refl
none-within something offset = refl
none-within (listing left) offset = refl

-- ---- piece by piece

split-front : (n m : ℕ) (xs : List ℕ)
    → take n (take m xs) ++ take (n - length (take n (take m xs))) (drop (length (take n (take m xs))) xs) ≡ take n xs
split-front zero m xs = refl
split-front (suc n) zero xs = ap (λ k. take k xs) (sub-zero (suc n))
split-front (suc n) (suc m) [] = ap (λ k. take k []) (sub-zero (suc n))
split-front (suc n) (suc m) (x ∷ xs) =
    let front = take n (take m xs) in
    let left : suc n - suc (length front) ≡ n - length front = omega arith in
    ap (λ k. x ∷ (front ++ take k (drop (length front) xs))) left ∙ ap (λ l. x ∷ l) (split-front n m xs)

module _ (most at end : ℕ) (bytes piece front : List ℕ) (before : at < end)
    (is_piece : piece ≡ take most (drop at bytes)) (is_front : front ≡ take (end - at) piece) where
  front-is : front ≡ take (end - at) (take most (drop at bytes))
  front-is = is_front ∙ ap (take (end - at)) is_piece

  few-front : length front ≤ end - at
  few-front =
      let taken : length front ≡ min (end - at) (length piece) =
      ap length is_front ∙ length-take (end - at) piece in
      omega (arith, taken)

  next-file : front ++ take (end - (at + length front)) (drop (at + length front) bytes)
      ≡ take (end - at) (drop at bytes)
  next-file =
      ap (λ l. front ++ l)
      ((let left : end - (at + length front) ≡ end - at - length front = omega (arith, before, few-front) in
      ap (λ n. take n (drop (at + length front) bytes)) left)
      ∙ ap (take (end - at - length front)) (sym (drop-of_drop (length front) at (at + length front) bytes refl)))
      ∙ (ap (λ l. l ++ take (end - at - length l) (drop (length l) (drop at bytes))) front-is
      ∙ split-front (end - at) most (drop at bytes))

-- the first bytes of a piece are those that come next
pub next-bytes : (bounds : TreeLimits) (at end : ℕ) (found : Seen) (piece front : List ℕ) → at < end
    → IsTrue (is_readable found end) → piece ≡ piece_of bounds at found → front ≡ take (end - at) piece
    → front ++ bytes_within found (at + length front) (end - (at + length front)) ≡ bytes_within found at (end - at)
next-bytes bounds at end (file number flags content) piece front before there is_piece is_front =
    next-file _ at end content.bytes piece front before is_piece is_front
next-bytes bounds at end absent piece front before there is_piece is_front = absurd cc
next-bytes bounds at end other_kind piece front before there is_piece is_front = absurd cc
next-bytes bounds at end something piece front before there is_piece is_front = absurd cc
next-bytes bounds at end (listing left) piece front before there is_piece is_front = absurd cc

-- they are some, and no more than are left
pub front-counts : (at end : ℕ) (piece front : List ℕ) → at < end → 0 < length piece
    → front ≡ take (end - at) piece → (0 < length front) × (at + length front ≤ end)
front-counts at end piece front before some is_front =
    let taken : length front ≡ min (end - at) (length piece) =
    ap length is_front ∙ length-take (end - at) piece in
    (omega (arith, taken, before, some), omega (arith, taken, before))

pub some-count : (n : ℕ) → (n ≡ 0 → ⊥) → 0 < n
some-count zero some = absurd (some refl)
some-count (suc n) some = omega arith

pub joined : (xs ys zs : List ℕ) → (xs ++ ys) ++ zs ≡ xs ++ (ys ++ zs)
joined [] ys zs = refl
joined (x ∷ xs) ys zs = ap (λ l. x ∷ l) (joined xs ys zs)
