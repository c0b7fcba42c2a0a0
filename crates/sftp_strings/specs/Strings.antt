-- How numbers and strings are spelled in bytes (draft-ietf-secsh-filexfer-02, section 3).
use Rattle.std.specs.Prelude.{ℕ, ◌<◌, List, ◌++◌, length}
use Rattle.std.specs.Int.{w32, w64, to_be_bytes}
use Rattle.std.specs.List.{AllByRecursion}

-- a number of four bytes, the most significant first
abbrev pub uint32 : ℕ → List ℕ
uint32 n = to_be_bytes w32 n

-- a number of eight bytes, the most significant first
abbrev pub uint64 : ℕ → List ℕ
uint64 n = to_be_bytes w64 n

-- the number of bytes, and then the bytes
abbrev pub string : List ℕ → List ℕ
string bytes = uint32 (length bytes) ++ bytes

-- each number is a byte
abbrev pub AreBytes : List ℕ → Type 0
AreBytes bytes = AllByRecursion (λ b. b < 256) bytes
