-- Bytes in hexadecimal digits, for worked examples.
use Rattle.std.specs.Prelude.{◌==◌, nat_lt, not, ℕ, ◌+◌, ◌-◌, ◌*◌, if◌then◌else◌}
use Rattle.std.specs.Prelude.{List, [], ◌∷◌, filter}

-- the value of a hexadecimal digit, `0` to `9` or `a` to `f`
abbrev pub digit_worth : ℕ → ℕ
digit_worth code = if nat_lt code 58 then code - 48 else code - 87

-- two digits a byte
abbrev pub bytes_of_digits : List ℕ → List ℕ
bytes_of_digits [] = []
bytes_of_digits (high ∷ []) = []
bytes_of_digits (high ∷ low ∷ others) = (digit_worth high * 16 + digit_worth low) ∷ bytes_of_digits others

-- the bytes of a text in hexadecimal digits; spaces only group them
unfoldable pub hex : List ℕ → List ℕ
hex text = bytes_of_digits (filter (λ code. not (code == 32)) text)
