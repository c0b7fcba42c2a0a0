-- Lists of bytes: what requests change in them.
use Rattle.std.specs.Prelude.{ℕ, ◌+◌, ◌-◌, List, [], ◌∷◌, ◌++◌, length, take, drop, replicate, ◌&&◌, ◌==◌, ◌<◌, ◌^◌}
use Rattle.std.specs.Prelude.{if◌then◌else◌, nat_le, nat_lt, slice_index, zero, suc}

-- `size` bytes: the first of these, and zeros where they end
abbrev pub resized : ℕ → List ℕ → List ℕ
resized size bytes = take size bytes ++ replicate (size - length bytes) 0

-- the bytes with the data over those from the offset on; where they end before the offset, zeros fill them up to it
abbrev pub overwritten : ℕ → List ℕ → List ℕ → List ℕ
overwritten offset new bytes = resized offset bytes ++ (new ++ drop (offset + length new) bytes)

-- the bytes that a function gives for so many numbers from one on
unfoldable pub tabulate : (ℕ → ℕ) → ℕ → ℕ → List ℕ
tabulate f at zero = []
tabulate f at (suc n) = f at ∷ tabulate f (suc at) n

-- the function with these bytes from a number on
unfoldable pub patched : (ℕ → ℕ) → ℕ → List ℕ → ℕ → ℕ
patched f start new i =
    if nat_le start i && nat_lt i (start + length new) then slice_index new (i - start) else f i

-- the bytes after a WRITE. No data changes nothing, at any offset. With APPEND the offset is the count of the bytes
abbrev pub written : ℕ → List ℕ → List ℕ → List ℕ
written offset new bytes = if length new == 0 then bytes else overwritten offset new bytes

-- bytes that are written end at a number that a size can be
abbrev pub IsWritable : ℕ → List ℕ → Type 0
IsWritable offset new = 0 < length new → offset + length new < 2 ^ 63
