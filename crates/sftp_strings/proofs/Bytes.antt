-- Bytes, and numbers of several bytes.
use Rattle.std.proofs.Common.{◌≡◌, ℕ, zero, suc, ◌+◌, ◌*◌, ◌^◌, ◌<◌, List, [], ◌∷◌, ◌++◌, length, get_or, take, drop, refl}
use Rattle.std.proofs.Common.{sym, ap, ◌∙◌, arith, inl, inr}
use Rattle.std.specs.Int.{Width, w32, w64, byte_len, from_be_bytes, to_be_bytes}
use Rattle.std.proofs.lemmas.Bool.{cases_lt}
use Rattle.std.proofs.lemmas.List.{length-take, get_or-drop, get_or-take, get_or_past}
use Rattle.std.proofs.lemmas.Nat.{be_bytes_4, be_bytes_8, from_be_bytes-to_be_bytes_4, from_be_bytes-to_be_bytes_8}
use Rattle.byteorder.specs.Endian.{big_number}
use Rattle.sftp_strings.specs.Strings.{uint32, uint64, AreBytes}

-- ==== Numbers of four and of eight bytes, written and read.

-- each number is a byte
abbrev pub IsBytes : List ℕ → Type 0
IsBytes bytes = (i : ℕ) → get_or bytes i 0 < 256

pub IsBytes-drop : (n : ℕ) (bytes : List ℕ) → IsBytes bytes → IsBytes (drop n bytes)
IsBytes-drop n bytes fits i = rw get_or-drop (fits (n + i))

pub IsBytes-take : (n : ℕ) (bytes : List ℕ) → IsBytes bytes → IsBytes (take n bytes)
IsBytes-take n bytes fits i =
    elim (cases_lt i n) [
      | inl lt ↦ rw (get_or-take n bytes i 0 lt) (fits i)
      | inr le ↦ rw (get_or_past (take n bytes) i 0 (omega (arith, length-take n bytes))) (omega arith)
    ]

pub IsBytes-rest : (b : ℕ) (bytes : List ℕ) → IsBytes (b ∷ bytes) → IsBytes bytes
IsBytes-rest b bytes fits i = fits (suc i)

-- the same by recursion
pub AreBytes-from_places : (bytes : List ℕ) → IsBytes bytes → AreBytes bytes
AreBytes-from_places [] fits = tt
AreBytes-from_places (b ∷ bytes) fits = (fits 0, AreBytes-from_places bytes (IsBytes-rest b bytes fits))

-- and back
pub IsBytes-from_all : (bytes : List ℕ) → AreBytes bytes → IsBytes bytes
IsBytes-from_all [] fits i = omega arith
IsBytes-from_all (b ∷ bytes) fits zero = fits.0
IsBytes-from_all (b ∷ bytes) fits (suc i) = IsBytes-from_all bytes fits.1 i

pub IsBytes-append : (xs ys : List ℕ) → IsBytes xs → IsBytes ys → IsBytes (xs ++ ys)
IsBytes-append [] ys p q i = q i
IsBytes-append (x ∷ xs) ys p q zero = p 0
IsBytes-append (x ∷ xs) ys p q (suc i) = IsBytes-append xs ys (λ j. p (suc j)) q i

-- ---- numbers of a width

abbrev pub Is32 : ℕ → Type 0
Is32 n = n < 2 ^ 32

abbrev pub Is64 : ℕ → Type 0
Is64 n = n < 2 ^ 64

-- reading and writing numbers of a width undo each other
pub record IsWide (w : Width) (limit : ℕ) : Type 0 where
  pub len : (n : ℕ) → length (to_be_bytes w n) ≡ byte_len w
  pub back : (bytes : List ℕ) → length bytes ≡ byte_len w → IsBytes bytes → to_be_bytes w (from_be_bytes w bytes) ≡ bytes
  pub again : (n : ℕ) → n < limit → from_be_bytes w (to_be_bytes w n) ≡ n
  pub below : (bytes : List ℕ) → IsBytes bytes → from_be_bytes w bytes < limit

pub wide32 : IsWide w32 (2 ^ 32)
wide32 = record {
  len = λ n. refl;
  back = λ bytes len fits. be_bytes_4 bytes _ len fits refl;
  again = λ n lt. from_be_bytes-to_be_bytes_4 n lt;
  below = λ bytes fits. omega (arith, fits 0, fits 1, fits 2, fits 3);
}

pub wide64 : IsWide w64 (2 ^ 64)
wide64 = record {
  len = λ n. refl;
  back = λ bytes len fits. be_bytes_8 bytes _ len fits refl;
  again = λ n lt. from_be_bytes-to_be_bytes_8 n lt;
  below = λ bytes fits. omega (arith, fits 0, fits 1, fits 2, fits 3, fits 4, fits 5, fits 6, fits 7);
}

-- a number is written in bytes
IsBytes-uint32 : (n : ℕ) → IsBytes (uint32 n)
IsBytes-uint32 n = IsBytes-from_all (uint32 n) (omega arith, (omega arith, (omega arith, (omega arith, tt))))

-- the number in four bytes is written as those bytes
pub uint32-front : (bytes front rest : List ℕ) (n : ℕ) → IsBytes front → length front ≡ 4 → front ++ rest ≡ bytes → n ≡ from_be_bytes w32 front → bytes ≡ uint32 n ++ rest
uint32-front bytes front rest n fits len parts is =
    let back : uint32 n ≡ front = rw is (wide32.back front len fits) in
    sym parts ∙ ap (λ (x : List ℕ). x ++ rest) (sym back)

-- two numbers are written as the one whose halves they are
pub two_as_one : (high low : ℕ) → Is32 high → Is32 low → uint64 (high * 2 ^ 32 + low) ≡ uint32 high ++ uint32 low
two_as_one high low fits_high fits_low =
    be_bytes_8 (uint32 high ++ uint32 low) (high * 2 ^ 32 + low) refl
    (IsBytes-append (uint32 high) (uint32 low) (IsBytes-uint32 high) (IsBytes-uint32 low))
    (omega (arith, wide32.again high fits_high, wide32.again low fits_low))

-- `byteorder` and std read a number alike
pub big_number-four : (bytes : List ℕ) → big_number 4 bytes ≡ from_be_bytes w32 bytes
big_number-four bytes = omega arith
