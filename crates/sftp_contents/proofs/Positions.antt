-- Where the bytes of a piece are.
use Rattle.std.proofs.Common.{◌≡◌, ℕ, ◌+◌, ◌-◌, ◌<◌, ◌≤◌, arith}
use Rattle.std.proofs.lemmas.Grind.{common_steps}
use Rattle.sftp_contents.specs.Pieces.{piece_number, piece_offset, piece_left}

pub left-some : (room i : ℕ) → 0 < piece_left room i
unfolding piece_left
left-some room i = grind (arith, common_steps)

pub same-number : (room i j : ℕ) → i ≤ j → j < i + piece_left room i → piece_number room j ≡ piece_number room i
unfolding piece_left piece_number
same-number room i j h k = grind (arith, common_steps)

pub same-offset : (room i j : ℕ) → i ≤ j → j < i + piece_left room i → piece_offset room j ≡ piece_offset room i + (j - i)
unfolding piece_left piece_offset
same-offset room i j h k = grind (arith, common_steps)

-- two bytes of one place are one
pub one-place : (room i j : ℕ) → piece_number room i ≡ piece_number room j → piece_offset room i ≡ piece_offset room j → i ≡ j
unfolding piece_number piece_offset
one-place room i j h k = grind (arith, common_steps)

pub number-below : (room i size : ℕ) → i < size → piece_number room i ≤ piece_number room size
unfolding piece_number
number-below room i size h = grind (arith, common_steps)

pub offset-below : (room i size : ℕ) → i < size → piece_number room i ≡ piece_number room size → piece_offset room i < piece_offset room size
unfolding piece_number piece_offset
offset-below room i size h e = grind (arith, common_steps)

pub number-from : (room i size : ℕ) → size ≤ i → piece_number room size ≤ piece_number room i
unfolding piece_number
number-from room i size h = grind (arith, common_steps)

pub offset-from : (room i size : ℕ) → size ≤ i → piece_number room i ≡ piece_number room size → piece_offset room size ≤ piece_offset room i
unfolding piece_number piece_offset
offset-from room i size h e = grind (arith, common_steps)
