-- The files of a session: how many bytes they may have, and what is written to them.
use Rattle.std.specs.Prelude.{◌≡◌, ◌≤◌, ◌-◌, ◌^◌, ℕ, ⊤, List, length, Option, Some, None}
use Rattle.std.specs.Prelude.{unwrap_or}

-- a file has no more bytes than the limit, or than can be counted
abbrev pub IsWithin : Option ℕ → List ℕ → Type 0
IsWithin limit bytes = length bytes ≤ unwrap_or limit (2 ^ 64 - 1)

-- known bytes are replaced by these
abbrev pub Becomes : Option (List ℕ) → Option (List ℕ) → List ℕ → Type 0
Becomes None new bytes = ⊤
Becomes (Some old) new bytes = new ≡ Some bytes
