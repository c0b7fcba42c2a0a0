-- The fields of packets: what is read is spelled so, and what is spelled so is read again.
use Rattle.std.proofs.Common.{◌≡◌, ℕ, ◌+◌, ◌^◌, ◌<◌, ◌≤◌, false, cond, ltb, List, [], ◌++◌, length, take, drop}
use Rattle.std.proofs.Common.{Result, Ok, Err, refl, sym, ap, subst, arith, ◌∷◌, ◌∙◌, append_assoc, ◌≢◌, zero, suc}
use Rattle.std.proofs.Common.{◌*◌, ◌/◌, ◌%◌, Bool, true, eqb, Option, Some, None, eq-eqb, ◌&&◌, ◌==◌}
use Rattle.std.specs.Int.{Width, w32, w64, byte_len, from_be_bytes, to_be_bytes, bit_at}
use Rattle.std.proofs.lemmas.Bool.{ltb-false, le-ltb, eqb-true, ne_eqb, and_parts}
use Rattle.std.proofs.lemmas.List.{take_at, drop_at, take-append-drop, append-nil, length-append, length-take}
use Rattle.std.proofs.lemmas.List.{length-drop}
use Rattle.sftp_packets.specs.declared.errors.Fault.{Fault}
use Rattle.sftp_packets.specs.declared.errors.Fault.TheVariants.{Short, HandleTooLong}
use Rattle.sftp_packets.specs.Spelling.{uint32, uint64, string, two_uint32, pair, handle_limit, AreBytes, FitsString}
use Rattle.sftp_packets.specs.Spelling.{FitsTwo, FitsPair, pairs, name_item, counted_pairs, FitsPairs, FitsCounted}
use Rattle.sftp_packets.specs.Spelling.{flag, attribute_flags, optional, attribute_fields, attributes, FitsAttrs}
use Rattle.sftp_packets.specs.Spelling.{names, FitsNameItem, FitsNames}
use Rattle.sftp_packets.specs.Reading.{◌>>=◌, number_at, uint32_at, uint64_at, bytes_at, string_at, handle_at}
use Rattle.sftp_packets.specs.Reading.{rest_at, two_uint32_at, pair_at, Reader, many_at, pairs_at, counted_pairs_at}
use Rattle.sftp_packets.specs.Reading.{has_flag, are_known, optional_at, attribute_fields_at, attributes_at}
use Rattle.sftp_packets.specs.Reading.{name_item_at, names_at}
use Rattle.sftp_strings.proofs.Bytes.{IsBytes-take, IsBytes-drop, AreBytes-from_places, IsWide, wide32}
use Rattle.sftp_strings.proofs.Bytes.{wide64, Is32, Is64}
use Rattle.sftp_packets.proofs.Readers.{bind_ok, guard_ok, ok_is, Takes, Takes-then, guard_held}
use Rattle.sftp_packets.proofs.Readers.{TakesAs, AgainAs, two_takes, two_again, many_takes, many_again}
use Rattle.sftp_packets.proofs.Readers.{up_to_end_takes, up_to_end_again, optional_takes, optional_again}
use Rattle.sftp_packets.proofs.Readers.{three_takes, three_again}
use Rattle.std.specs.List.{flat_map, AllByRecursion}
use Rattle.sftp_packets.specs.declared.names.NameItem.{NameItem}
use Rattle.std.specs.Prelude.{is_some}
use Rattle.std.specs.Int.RustNames.{bit_and, bit_or}
use Rattle.std.proofs.lemmas.Nat.{and_mask, and_block}
use Rattle.std.proofs.lemmas.Nat.Bits.{and_pow, bit_at-lt}
use Rattle.sftp_packets.specs.declared.attributes.Attrs.{Attrs}
use Rattle.bitflags.specs.Sets.{without}
use Rattle.sftp_packets.specs.declared.errors.Fault.TheVariants as faults

-- ==== Numbers, strings, handles and pairs: a field that is read is spelled so, and what is spelled so is read again.

-- ---- numbers

number_takes : (w : Width) (limit : ℕ) (wide : IsWide w limit) → TakesAs (number_at w) (to_be_bytes w) (λ n. n < limit)
number_takes w limit wide bytes n rest fits e =
    let front = take (byte_len w) bytes in
    let g = guard_ok (ltb (length bytes) (byte_len w)) Short (Ok (from_be_bytes w front, drop (byte_len w) bytes)) (n, rest) e in
    let long : byte_len w ≤ length bytes = ltb-false _ _ g.0 in
    let back : to_be_bytes w (from_be_bytes w front) ≡ front = wide.back front (omega (arith, length-take (byte_len w) bytes)) (IsBytes-take (byte_len w) bytes fits) in
    let taken : Takes bytes (to_be_bytes w (from_be_bytes w front)) (drop (byte_len w) bytes) = record { parts = rw back (sym (take-append-drop (byte_len w) bytes)); rest_fits = IsBytes-drop (byte_len w) bytes fits } in
    subst (λ (x : ℕ × List ℕ). Takes bytes (to_be_bytes w x.0) x.1 × (x.0 < limit)) (ok_is (from_be_bytes w front, drop (byte_len w) bytes) (n, rest) g.1) (taken, wide.below front (IsBytes-take (byte_len w) bytes fits))

number_again : (w : Width) (limit : ℕ) (wide : IsWide w limit) → AgainAs (number_at w) (to_be_bytes w) (λ n. n < limit)
number_again w limit wide rest n lt =
    let len = wide.len n in
    let long : ltb (length (to_be_bytes w n ++ rest)) (byte_len w) ≡ false = le-ltb _ _ (omega (arith, length-append (to_be_bytes w n) rest)) in
    rw (long, take_at (to_be_bytes w n) rest (byte_len w) len, drop_at (to_be_bytes w n) rest (byte_len w) len, wide.again n lt) refl

pub uint32_takes : TakesAs uint32_at uint32 (λ n. n < 2 ^ 32)
unfolding uint32_at
uint32_takes = number_takes w32 (2 ^ 32) wide32

pub uint32_again : AgainAs uint32_at uint32 (λ n. n < 2 ^ 32)
unfolding uint32_at
uint32_again = number_again w32 (2 ^ 32) wide32

pub uint64_takes : TakesAs uint64_at uint64 (λ n. n < 2 ^ 64)
unfolding uint64_at
uint64_takes = number_takes w64 (2 ^ 64) wide64

pub uint64_again : AgainAs uint64_at uint64 (λ n. n < 2 ^ 64)
unfolding uint64_at
uint64_again = number_again w64 (2 ^ 64) wide64

pub two_uint32_takes : TakesAs two_uint32_at two_uint32 FitsTwo
unfolding two_uint32_at
two_uint32_takes = two_takes uint32_at uint32_at (λ a b. (a, b)) uint32 uint32 two_uint32 (λ n. n < 2 ^ 32) (λ n. n < 2 ^ 32) FitsTwo uint32_takes uint32_takes (λ a b. refl) (λ a b f g. (f, g))

pub two_uint32_again : AgainAs two_uint32_at two_uint32 FitsTwo
unfolding two_uint32_at
two_uint32_again rest p fits = two_again uint32_at uint32_at (λ a b. (a, b)) uint32 uint32 p.0 p.1 rest (uint32_again (uint32 p.1 ++ rest) p.0 fits.0) (uint32_again rest p.1 fits.1)

-- ---- strings

-- the bytes after a length
abbrev text_behind : ℕ × List ℕ → Result (List ℕ × List ℕ) Fault
text_behind n = bytes_at n.0 n.1

-- the bytes after a length are taken where there are enough
text_takes : (bytes : List ℕ) (n : ℕ × List ℕ) (text rest : List ℕ) → Takes bytes (uint32 n.0) n.1 → n.0 < 2 ^ 32 → text_behind n ≡ Ok (text, rest) → Takes bytes (string text) rest × FitsString text × (length text ≡ n.0)
text_takes bytes n text rest taken lt e =
    let g = guard_ok (ltb (length n.1) n.0) Short (Ok (take n.0 n.1, drop n.0 n.1)) (text, rest) e in
    let long : n.0 ≤ length n.1 = ltb-false _ _ g.0 in
    let len : length (take n.0 n.1) ≡ n.0 = omega (arith, length-take n.0 n.1) in
    let second : Takes n.1 (take n.0 n.1) (drop n.0 n.1) = record { parts = sym (take-append-drop n.0 n.1); rest_fits = IsBytes-drop n.0 n.1 taken.rest_fits } in
    let both = Takes-then bytes (uint32 n.0) n.1 (take n.0 n.1) (drop n.0 n.1) taken second in
    let whole : Takes bytes (string (take n.0 n.1)) (drop n.0 n.1) = subst (λ (k : ℕ). Takes bytes (uint32 k ++ take n.0 n.1) (drop n.0 n.1)) (sym len) both in
    let fit : FitsString (take n.0 n.1) = record { bytes_fit = AreBytes-from_places (take n.0 n.1) (IsBytes-take n.0 n.1 taken.rest_fits); length_fits = omega (arith, lt) } in
    subst (λ (p : List ℕ × List ℕ). Takes bytes (string p.0) p.1 × FitsString p.0 × (length p.0 ≡ n.0)) (ok_is _ _ g.1) (whole, fit, len)

pub string_takes : TakesAs string_at string FitsString
unfolding string_at
string_takes bytes text rest fits e =
    let b = bind_ok (uint32_at bytes) text_behind (text, rest) e in
    let t = uint32_takes bytes b.0.0 b.0.1 fits b.1 in
    let all = text_takes bytes b.0 text rest t.0 t.1 b.2 in
    (all.0, all.1)

pub string_again : AgainAs string_at string FitsString
unfolding string_at
string_again rest text fits =
    let long : ltb (length (text ++ rest)) (length text) ≡ false = le-ltb _ _ (omega (arith, length-append text rest)) in
    rw (uint32_again (text ++ rest) (length text) fits.length_fits, long, take_at text rest (length text) refl, drop_at text rest (length text) refl) refl

-- ---- handles

-- a string within the limit of a handle
abbrev pub FitsHandle : List ℕ → Type 0
FitsHandle handle = FitsString handle × (length handle ≤ handle_limit)

pub handle_takes : TakesAs handle_at string FitsHandle
unfolding handle_at
handle_takes bytes text rest fits e =
    let b = bind_ok (uint32_at bytes) (λ n. cond (ltb handle_limit n.0) (Err HandleTooLong) (text_behind n)) (text, rest) e in
    let t = uint32_takes bytes b.0.0 b.0.1 fits b.1 in
    let g = guard_ok (ltb handle_limit b.0.0) HandleTooLong _ (text, rest) b.2 in
    let all = text_takes bytes b.0 text rest t.0 t.1 g.1 in
    let small : b.0.0 ≤ handle_limit = ltb-false _ _ g.0 in
    (all.0, (all.1, omega (arith, small, all.2)))

pub handle_again : AgainAs handle_at string FitsHandle
unfolding handle_at
handle_again rest text fits =
    let small : ltb handle_limit (length text) ≡ false = le-ltb _ _ fits.1 in
    let long : ltb (length (text ++ rest)) (length text) ≡ false = le-ltb _ _ (omega (arith, length-append text rest)) in
    rw (uint32_again (text ++ rest) (length text) fits.0.length_fits, small, long, take_at text rest (length text) refl, drop_at text rest (length text) refl) refl

-- ---- the bytes that are left

abbrev pub as_bytes : List ℕ → List ℕ
as_bytes bytes = bytes

pub rest_takes : TakesAs rest_at as_bytes AreBytes
rest_takes bytes text rest fits e =
    let all : Takes bytes bytes [] = record { parts = sym (append-nil bytes); rest_fits = λ i. omega arith } in
    subst (λ (p : List ℕ × List ℕ). Takes bytes p.0 p.1 × AreBytes p.0) (ok_is _ _ e) (all, AreBytes-from_places bytes fits)

-- the bytes that are left are read again
pub rest_again : (bytes : List ℕ) → rest_at (bytes ++ []) ≡ Ok (bytes, [])
rest_again bytes = rw (append-nil bytes) refl

-- ---- pairs

pub pair_takes : TakesAs pair_at pair FitsPair
unfolding pair_at
pair_takes = two_takes string_at string_at (λ a b. (a, b)) string string pair FitsString FitsString FitsPair string_takes string_takes (λ a b. refl) (λ a b f g. (f, g))

pub pair_again : AgainAs pair_at pair FitsPair
unfolding pair_at
pair_again rest p fits = two_again string_at string_at (λ a b. (a, b)) string string p.0 p.1 rest (string_again (string p.1 ++ rest) p.0 fits.0) (string_again rest p.1 fits.1)

-- ---- a reader of a field takes at least a byte

number-shortens : (w : Width) (bytes : List ℕ) (n : ℕ) (rest : List ℕ) → number_at w bytes ≡ Ok (n, rest) → length rest + byte_len w ≡ length bytes
number-shortens w bytes n rest e =
    let g = guard_ok (ltb (length bytes) (byte_len w)) Short (Ok (from_be_bytes w (take (byte_len w) bytes), drop (byte_len w) bytes)) (n, rest) e in
    let long : byte_len w ≤ length bytes = ltb-false _ _ g.0 in
    let is : drop (byte_len w) bytes ≡ rest = ap (λ (x : ℕ × List ℕ). x.1) (ok_is _ _ g.1) in
    omega (arith, ap length is, length-drop (byte_len w) bytes)

string-shortens : (bytes text rest : List ℕ) → string_at bytes ≡ Ok (text, rest) → length rest < length bytes
unfolding string_at uint32_at
string-shortens bytes text rest e =
    let b = bind_ok (uint32_at bytes) text_behind (text, rest) e in
    let n = b.0 in
    let g = guard_ok (ltb (length n.1) n.0) Short (Ok (take n.0 n.1, drop n.0 n.1)) (text, rest) b.2 in
    let is : drop n.0 n.1 ≡ rest = ap (λ (x : List ℕ × List ℕ). x.1) (ok_is _ _ g.1) in
    omega (arith, ap length is, length-drop n.0 n.1, number-shortens w32 bytes n.0 n.1 b.1)

pub pair-shortens : (bytes : List ℕ) (p : List ℕ × List ℕ) (rest : List ℕ) → pair_at bytes ≡ Ok (p, rest) → length rest < length bytes
unfolding pair_at
pair-shortens bytes p rest e =
    let a = bind_ok (string_at bytes) (λ a. string_at a.1 >>= λ b. Ok ((a.0, b.0), b.1)) (p, rest) e in
    let b = bind_ok (string_at a.0.1) (λ b. Ok ((a.0.0, b.0), b.1)) (p, rest) a.2 in
    let is : b.0.1 ≡ rest = ap (λ (x : (List ℕ × List ℕ) × List ℕ). x.1) (ok_is ((a.0.0, b.0.0), b.0.1) (p, rest) b.2) in
    omega (arith, ap length is, string-shortens bytes a.0.0 a.0.1 a.1, string-shortens a.0.1 b.0.0 b.0.1 b.1)

-- ==== Each pair and each name takes at least a byte, so that there are no more of them than bytes.

pub pair_is_long : (p : List ℕ × List ℕ) → 0 < length (pair p)
pair_is_long p = omega (arith, length-append (string p.0) (string p.1), length-append (uint32 (length p.0)) p.0)

pub length_pairs : (ps : List (List ℕ × List ℕ)) → length ps ≤ length (pairs ps)
length_pairs [] = omega arith
length_pairs (p ∷ ps) = omega (arith, length_pairs ps, length-append (pair p) (pairs ps))

pub length_names : (ns : List NameItem) → length ns ≤ length (flat_map name_item ns)
length_names [] = omega arith
length_names (n ∷ ns) = omega (arith, length_names ns, length-append (name_item n) (flat_map name_item ns))

-- ==== Values after their count: what is read is spelled so, and what is spelled so is read again.

-- values after their count
abbrev pub counted_at : {A : Type 0} → Reader A → Reader (List A)
counted_at read bytes = uint32_at bytes >>= λ n. many_at read n.0 n.1

-- a count, and then the values
abbrev pub counted : {A : Type 0} → (A → List ℕ) → List A → List ℕ
counted spell xs = uint32 (length xs) ++ flat_map spell xs

abbrev pub FitCounted : {A : Type 0} → (A → Type 0) → List A → Type 0
FitCounted Fits xs = (length xs < 2 ^ 32) × AllByRecursion Fits xs

pub counted_takes : {A : Type 0} (read : Reader A) (spell : A → List ℕ) (Fits : A → Type 0) → TakesAs read spell Fits → TakesAs (counted_at read) (counted spell) (FitCounted Fits)
counted_takes read spell Fits takes bytes xs rest is_bytes e =
    let n = bind_ok (uint32_at bytes) (λ n. many_at read n.0 n.1) (xs, rest) e in
    let t = uint32_takes bytes n.0.0 n.0.1 is_bytes n.1 in
    let u = many_takes read spell Fits takes n.0.0 n.0.1 xs rest t.0.rest_fits n.2 in
    let both = Takes-then bytes (uint32 n.0.0) n.0.1 (flat_map spell xs) rest t.0 u.0 in
    let whole : Takes bytes (counted spell xs) rest = subst (λ (k : ℕ). Takes bytes (uint32 k ++ flat_map spell xs) rest) (sym u.1.0) both in
    (whole, (omega (arith, u.1.0, t.1), u.1.1))

pub counted_again : {A : Type 0} (read : Reader A) (spell : A → List ℕ) (Fits : A → Type 0) → AgainAs read spell Fits → AgainAs (counted_at read) (counted spell) (FitCounted Fits)
counted_again read spell Fits again rest xs fits =
    ap (counted_at read) (append_assoc (uint32 (length xs)) (flat_map spell xs) rest)
    ∙ rw (uint32_again (flat_map spell xs ++ rest) (length xs) fits.0) (many_again read spell Fits again rest xs fits.1)

-- ==== Lists of pairs, up to the end and after their number: what is read is spelled so, and what is spelled so is read
-- again.

pub pairs_takes : TakesAs pairs_at pairs FitsPairs
unfolding pairs_at
pairs_takes bytes = up_to_end_takes pair_at pair FitsPair pair_takes (length bytes) bytes

pub pairs_again : (ps : List (List ℕ × List ℕ)) → FitsPairs ps → pairs_at (pairs ps ++ []) ≡ Ok (ps, [])
unfolding pairs_at
pairs_again ps fits = up_to_end_again pair_at pair FitsPair pair_again pair_is_long (length (pairs ps ++ [])) ps (omega (arith, length-append (pairs ps) [], length_pairs ps)) fits

pub counted_pairs_takes : TakesAs counted_pairs_at counted_pairs FitsCounted
unfolding counted_pairs_at
counted_pairs_takes = counted_takes pair_at pair FitsPair pair_takes

pub counted_pairs_again : AgainAs counted_pairs_at counted_pairs FitsCounted
unfolding counted_pairs_at
counted_pairs_again = counted_again pair_at pair FitsPair pair_again

-- ==== The flags of attributes say which fields are present.

-- 1 for a field that is present, 0 for an absent one
abbrev pub bit_of : Bool → ℕ
bit_of true = 1
bit_of false = 0

bit_of-lt : (b : Bool) → bit_of b < 2
bit_of-lt true = omega arith
bit_of-lt false = omega arith

same_from_bit : (a b : Bool) → bit_of a ≡ bit_of b → a ≡ b
same_from_bit true true e = refl
same_from_bit true false e = absurd (omega arith)
same_from_bit false true e = absurd (omega arith)
same_from_bit false false e = refl

-- a field is present exactly where its flag is set
pub record SaysFields (flags : ℕ) (a : Attrs) : Type 0 where
  pub size : is_some a.size ≡ has_flag flags 0x00000001
  pub owner : is_some a.owner ≡ has_flag flags 0x00000002
  pub permissions : is_some a.permissions ≡ has_flag flags 0x00000004
  pub times : is_some a.times ≡ has_flag flags 0x00000008
  pub extended : is_some a.extended ≡ has_flag flags 0x80000000

flag-bit : {A : Type 0} (bit : ℕ) (o : Option A) → flag bit o ≡ bit * bit_of (is_some o)
flag-bit bit None = omega arith
flag-bit bit (Some a) = omega arith

bit_test : (x p : ℕ) → x < 2 → 0 < p → bit_of (eqb (x * p) p) ≡ x
bit_test zero p lt there =
    let other : 0 * p ≢ p = omega arith in
    rw (ne_eqb (0 * p) p other) refl
bit_test (suc zero) p lt there = rw (eq-eqb (1 * p) p (omega arith)) refl
bit_test (suc (suc x)) p lt there = absurd (omega arith)

has_flag-bit : (flags k : ℕ) → 0 < 2 ^ k → bit_of (has_flag flags (2 ^ k)) ≡ bit_at flags k
has_flag-bit flags k there = rw (and_pow flags k) (bit_test (bit_at flags k) (2 ^ k) (bit_at-lt flags k) there)

-- the flags under the mask of the known ones
known_part : (flags : ℕ) → bit_and flags 0x8000000f ≡ (flags / 2 ^ 31 % 2) * 2 ^ 31 + flags % 2 ^ 31 % 16
known_part flags =
    let split : flags ≡ flags / 2 ^ 31 * 2 ^ 31 + flags % 2 ^ 31 = omega arith in
    ap (λ (n : ℕ). bit_and n 0x8000000f) split
    ∙ and_block 31 (flags / 2 ^ 31) 1 (flags % 2 ^ 31) 15 (omega arith) (omega arith)
    ∙ omega (arith, and_mask (flags / 2 ^ 31) 1, and_mask (flags % 2 ^ 31) 4)

pub attribute_flags-are : (flags : ℕ) (a : Attrs) → flags < 2 ^ 32 → are_known flags ≡ true → SaysFields flags a → attribute_flags a ≡ flags
attribute_flags-are flags a lt known says =
    let known_is : bit_and flags 0x8000000f ≡ flags = eqb-true _ _ known in
    let size : flag 0x00000001 a.size ≡ 1 * bit_at flags 0 = flag-bit 1 a.size ∙ ap (λ (b : Bool). 1 * bit_of b) says.size ∙ ap (λ (n : ℕ). 1 * n) (has_flag-bit flags 0 (omega arith)) in
    let owner : flag 0x00000002 a.owner ≡ 2 * bit_at flags 1 = flag-bit 2 a.owner ∙ ap (λ (b : Bool). 2 * bit_of b) says.owner ∙ ap (λ (n : ℕ). 2 * n) (has_flag-bit flags 1 (omega arith)) in
    let permissions : flag 0x00000004 a.permissions ≡ 4 * bit_at flags 2 = flag-bit 4 a.permissions ∙ ap (λ (b : Bool). 4 * bit_of b) says.permissions ∙ ap (λ (n : ℕ). 4 * n) (has_flag-bit flags 2 (omega arith)) in
    let times : flag 0x00000008 a.times ≡ 8 * bit_at flags 3 = flag-bit 8 a.times ∙ ap (λ (b : Bool). 8 * bit_of b) says.times ∙ ap (λ (n : ℕ). 8 * n) (has_flag-bit flags 3 (omega arith)) in
    let extended : flag 0x80000000 a.extended ≡ 0x80000000 * bit_at flags 31 = flag-bit 0x80000000 a.extended ∙ ap (λ (b : Bool). 0x80000000 * bit_of b) says.extended ∙ ap (λ (n : ℕ). 0x80000000 * n) (has_flag-bit flags 31 (omega arith)) in
    omega (arith, size, owner, permissions, times, extended, known_is, known_part flags)

-- ---- conversely, the flags of attributes are known, and say which fields are present

record FlagBits (flags : ℕ) (a : Attrs) : Type 0 where
  pub known : bit_and flags 0x8000000f ≡ flags
  pub size : bit_at flags 0 ≡ bit_of (is_some a.size)
  pub owner : bit_at flags 1 ≡ bit_of (is_some a.owner)
  pub permissions : bit_at flags 2 ≡ bit_of (is_some a.permissions)
  pub times : bit_at flags 3 ≡ bit_of (is_some a.times)
  pub extended : bit_at flags 31 ≡ bit_of (is_some a.extended)
  pub fit : flags < 2 ^ 32

sum_bits : (flags s o p t e : ℕ) → s < 2 → o < 2 → p < 2 → t < 2 → e < 2 → flags ≡ 1 * s + 2 * o + 4 * p + 8 * t + 0x80000000 * e
    → (bit_and flags 0x8000000f ≡ flags) × (bit_at flags 0 ≡ s) × (bit_at flags 1 ≡ o) × (bit_at flags 2 ≡ p) × (bit_at flags 3 ≡ t) × (bit_at flags 31 ≡ e) × (flags < 2 ^ 32)
sum_bits flags s o p t e ls lo lp lt le is =
    (omega (arith, known_part flags), omega arith, omega arith, omega arith, omega arith, omega arith, omega arith)

flag_bits : (a : Attrs) → FlagBits (attribute_flags a) a
flag_bits a =
    let is : attribute_flags a ≡ 1 * bit_of (is_some a.size) + 2 * bit_of (is_some a.owner) + 4 * bit_of (is_some a.permissions) + 8 * bit_of (is_some a.times) + 0x80000000 * bit_of (is_some a.extended) =
    omega (arith, flag-bit 1 a.size, flag-bit 2 a.owner, flag-bit 4 a.permissions, flag-bit 8 a.times, flag-bit 0x80000000 a.extended) in
    let p = sum_bits (attribute_flags a) (bit_of (is_some a.size)) (bit_of (is_some a.owner)) (bit_of (is_some a.permissions)) (bit_of (is_some a.times)) (bit_of (is_some a.extended))
    (bit_of-lt (is_some a.size)) (bit_of-lt (is_some a.owner)) (bit_of-lt (is_some a.permissions)) (bit_of-lt (is_some a.times)) (bit_of-lt (is_some a.extended)) is in
    record { known = p.0; size = p.1; owner = p.2; permissions = p.3; times = p.4; extended = p.5; fit = p.6 }

pub attribute_flags-say : (a : Attrs) → SaysFields (attribute_flags a) a
attribute_flags-say a =
    let b = flag_bits a in
    let n = attribute_flags a in
    record {
      size = same_from_bit _ _ (sym b.size ∙ sym (has_flag-bit n 0 (omega arith)));
      owner = same_from_bit _ _ (sym b.owner ∙ sym (has_flag-bit n 1 (omega arith)));
      permissions = same_from_bit _ _ (sym b.permissions ∙ sym (has_flag-bit n 2 (omega arith)));
      times = same_from_bit _ _ (sym b.times ∙ sym (has_flag-bit n 3 (omega arith)));
      extended = same_from_bit _ _ (sym b.extended ∙ sym (has_flag-bit n 31 (omega arith)));
    }

pub attribute_flags-known : (a : Attrs) → are_known (attribute_flags a) ≡ true
attribute_flags-known a = eq-eqb _ _ (flag_bits a).known

pub attribute_flags-fit : (a : Attrs) → attribute_flags a < 2 ^ 32
attribute_flags-fit a = (flag_bits a).fit

-- ==== Flags that are set one after the other add up.

-- a flag, set for a present field and cleared for an absent one
abbrev pub with_flag : ℕ → ℕ → Bool → ℕ
with_flag bits bit there = cond there (bit_or bits bit) (without 32 bits bit)

-- a test that both truth values pass
abbrev every : (Bool → Bool) → Bool
every p = p true && p false

every-at : (p : Bool → Bool) → every p ≡ true → (b : Bool) → p b ≡ true
every-at p e true = (and_parts (p true) (p false) e).0
every-at p e false = (and_parts (p true) (p false) e).1

abbrev all_flags : Bool → Bool → Bool → Bool → Bool → ℕ
all_flags a b c d e = with_flag (with_flag (with_flag (with_flag (with_flag 0 0x1 a) 0x2 b) 0x4 c) 0x8 d) 0x80000000 e

abbrev all_sum : Bool → Bool → Bool → Bool → Bool → ℕ
all_sum a b c d e = cond a 0x1 0 + cond b 0x2 0 + cond c 0x4 0 + cond d 0x8 0 + cond e 0x80000000 0

abbrev same : Bool → Bool → Bool → Bool → Bool → Bool
same a b c d e = all_flags a b c d e == all_sum a b c d e

flags-sum : (a b c d e : Bool) → all_flags a b c d e ≡ all_sum a b c d e
flags-sum a b c d e =
    let in_a = every-at (λ a. every (λ b. every (λ c. every (λ d. every (λ e. same a b c d e))))) refl a in
    let in_b = every-at (λ b. every (λ c. every (λ d. every (λ e. same a b c d e)))) in_a b in
    let in_c = every-at (λ c. every (λ d. every (λ e. same a b c d e))) in_b c in
    let in_d = every-at (λ d. every (λ e. same a b c d e)) in_c d in
    eqb-true _ _ (every-at (λ e. same a b c d e) in_d e)

pub flag-is : {A : Type 0} (bit : ℕ) (o : Option A) → cond (is_some o) bit 0 ≡ flag bit o
flag-is bit None = refl
flag-is bit (Some a) = refl

pub attribute_flags-is : (a : Attrs) → with_flag (with_flag (with_flag (with_flag (with_flag 0 0x1 (is_some a.size)) 0x2 (is_some a.owner)) 0x4 (is_some a.permissions)) 0x8 (is_some a.times)) 0x80000000 (is_some a.extended) ≡ attribute_flags a
attribute_flags-is a =
    flags-sum _ _ _ _ _ ∙ rw (flag-is 0x1 a.size, flag-is 0x2 a.owner, flag-is 0x4 a.permissions, flag-is 0x8 a.times, flag-is 0x80000000 a.extended) refl

-- ==== Attributes: what is read is spelled so, and what is spelled so is read again.

attribute_fields_takes : (flags : ℕ) → TakesAs (attribute_fields_at flags) attribute_fields (λ a. FitsAttrs a × SaysFields flags a)
unfolding attribute_fields_at
attribute_fields_takes flags bytes x rest is_bytes e =
    let size = bind_ok (optional_at (has_flag flags 0x00000001) uint64_at bytes) _ (x, rest) e in
    let owner = bind_ok (optional_at (has_flag flags 0x00000002) two_uint32_at size.0.1) _ (x, rest) size.2 in
    let permissions = bind_ok (optional_at (has_flag flags 0x00000004) uint32_at owner.0.1) _ (x, rest) owner.2 in
    let times = bind_ok (optional_at (has_flag flags 0x00000008) two_uint32_at permissions.0.1) _ (x, rest) permissions.2 in
    let extended = bind_ok (optional_at (has_flag flags 0x80000000) counted_pairs_at times.0.1) _ (x, rest) times.2 in
    let a = optional_takes (has_flag flags 0x00000001) uint64_at uint64 Is64 uint64_takes bytes size.0.0 size.0.1 is_bytes size.1 in
    let b = optional_takes (has_flag flags 0x00000002) two_uint32_at two_uint32 FitsTwo two_uint32_takes size.0.1 owner.0.0 owner.0.1 a.0.rest_fits owner.1 in
    let c = optional_takes (has_flag flags 0x00000004) uint32_at uint32 Is32 uint32_takes owner.0.1 permissions.0.0 permissions.0.1 b.0.rest_fits permissions.1 in
    let d = optional_takes (has_flag flags 0x00000008) two_uint32_at two_uint32 FitsTwo two_uint32_takes permissions.0.1 times.0.0 times.0.1 c.0.rest_fits times.1 in
    let f = optional_takes (has_flag flags 0x80000000) counted_pairs_at counted_pairs FitsCounted counted_pairs_takes times.0.1 extended.0.0 extended.0.1 d.0.rest_fits extended.1 in
    let df = Takes-then permissions.0.1 (optional two_uint32 times.0.0) times.0.1 (optional counted_pairs extended.0.0) extended.0.1 d.0 f.0 in
    let cf = Takes-then owner.0.1 (optional uint32 permissions.0.0) permissions.0.1 (optional two_uint32 times.0.0 ++ optional counted_pairs extended.0.0) extended.0.1 c.0 df in
    let bf = Takes-then size.0.1 (optional two_uint32 owner.0.0) owner.0.1 (optional uint32 permissions.0.0 ++ (optional two_uint32 times.0.0 ++ optional counted_pairs extended.0.0)) extended.0.1 b.0 cf in
    let af = Takes-then bytes (optional uint64 size.0.0) size.0.1 (optional two_uint32 owner.0.0 ++ (optional uint32 permissions.0.0 ++ (optional two_uint32 times.0.0 ++ optional counted_pairs extended.0.0))) extended.0.1 a.0 bf in
    let made : Attrs = record { size = size.0.0; owner = owner.0.0; permissions = permissions.0.0; times = times.0.0; extended = extended.0.0 } in
    let fits : FitsAttrs made = record { size = a.1.0; owner = b.1.0; permissions = c.1.0; times = d.1.0; extended = f.1.0 } in
    let says : SaysFields flags made = record { size = a.1.1; owner = b.1.1; permissions = c.1.1; times = d.1.1; extended = f.1.1 } in
    subst (λ (y : Attrs × List ℕ). Takes bytes (attribute_fields y.0) y.1 × (FitsAttrs y.0 × SaysFields flags y.0)) (ok_is (made, extended.0.1) (x, rest) extended.2) (af, (fits, says))

attribute_fields_again : (flags : ℕ) (rest : List ℕ) (a : Attrs) → FitsAttrs a → SaysFields flags a → attribute_fields_at flags (attribute_fields a ++ rest) ≡ Ok (a, rest)
unfolding attribute_fields_at
attribute_fields_again flags rest a fits says =
    let after_times = optional counted_pairs a.extended ++ rest in
    let after_permissions = optional two_uint32 a.times ++ after_times in
    let after_owner = optional uint32 a.permissions ++ after_permissions in
    let after_size = optional two_uint32 a.owner ++ after_owner in
    let regrouped : attribute_fields a ++ rest ≡ optional uint64 a.size ++ after_size = simp append_assoc in
    ap (attribute_fields_at flags) regrouped
    ∙ rw (
      optional_again uint64_at uint64 Is64 uint64_again after_size (has_flag flags 0x00000001) a.size says.size fits.size,
      optional_again two_uint32_at two_uint32 FitsTwo two_uint32_again after_owner (has_flag flags 0x00000002) a.owner says.owner fits.owner,
      optional_again uint32_at uint32 Is32 uint32_again after_permissions (has_flag flags 0x00000004) a.permissions says.permissions fits.permissions,
      optional_again two_uint32_at two_uint32 FitsTwo two_uint32_again after_times (has_flag flags 0x00000008) a.times says.times fits.times,
      optional_again counted_pairs_at counted_pairs FitsCounted counted_pairs_again rest (has_flag flags 0x80000000) a.extended says.extended fits.extended,
    ) refl

pub attributes_takes : TakesAs attributes_at attributes FitsAttrs
unfolding attributes_at
attributes_takes bytes a rest is_bytes e =
    let flags = bind_ok (uint32_at bytes) (λ flags. cond (are_known flags.0) (attribute_fields_at flags.0 flags.1) (Err faults.Flags)) (a, rest) e in
    let g = guard_held (are_known flags.0.0) faults.Flags (attribute_fields_at flags.0.0 flags.0.1) (a, rest) flags.2 in
    let t = uint32_takes bytes flags.0.0 flags.0.1 is_bytes flags.1 in
    let u = attribute_fields_takes flags.0.0 flags.0.1 a rest t.0.rest_fits g.1 in
    let same : attribute_flags a ≡ flags.0.0 = attribute_flags-are flags.0.0 a t.1 g.0 u.1.1 in
    let both = Takes-then bytes (uint32 flags.0.0) flags.0.1 (attribute_fields a) rest t.0 u.0 in
    (subst (λ (n : ℕ). Takes bytes (uint32 n ++ attribute_fields a) rest) (sym same) both, u.1.0)

pub attributes_again : AgainAs attributes_at attributes FitsAttrs
unfolding attributes_at
attributes_again rest a fits =
    ap attributes_at (append_assoc (uint32 (attribute_flags a)) (attribute_fields a) rest)
    ∙ rw (uint32_again (attribute_fields a ++ rest) (attribute_flags a) (attribute_flags-fit a), attribute_flags-known a) (attribute_fields_again (attribute_flags a) rest a fits (attribute_flags-say a))

-- ==== The names of a NAME reply: what is read is spelled so, and what is spelled so is read again.

pub name_item_takes : TakesAs name_item_at name_item FitsNameItem
unfolding name_item_at
name_item_takes =
    three_takes string_at string_at attributes_at (λ filename longname attrs. record { filename = filename; longname = longname; attrs = attrs }) string string attributes name_item
    FitsString FitsString FitsAttrs FitsNameItem string_takes string_takes attributes_takes (λ a b c. refl) (λ a b c f g h. record { filename = f; longname = g; attrs = h })

pub name_item_again : AgainAs name_item_at name_item FitsNameItem
unfolding name_item_at
name_item_again rest n fits =
    three_again string_at string_at attributes_at (λ filename longname attrs. record { filename = filename; longname = longname; attrs = attrs }) string string attributes n.filename n.longname n.attrs rest
    (string_again (string n.longname ++ (attributes n.attrs ++ rest)) n.filename fits.filename) (string_again (attributes n.attrs ++ rest) n.longname fits.longname) (attributes_again rest n.attrs fits.attrs)

pub names_takes : TakesAs names_at names FitsNames
unfolding names_at
names_takes = counted_takes name_item_at name_item FitsNameItem name_item_takes

pub names_again : AgainAs names_at names FitsNames
unfolding names_at
names_again = counted_again name_item_at name_item FitsNameItem name_item_again
