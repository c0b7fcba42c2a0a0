-- A content that is cut, seen at its bytes.
use Rattle.std.proofs.Common.{◌≡◌, ◌≢◌, ℕ, ◌-◌, ◌<◌, ◌≤◌, List, [], take}
use Rattle.std.proofs.Common.{refl, ap, sym, ◌∙◌, arith, inl, inr, get_or}
use Rattle.std.specs.Prelude.{nat_lt, if◌then◌else◌}
use Rattle.std.proofs.lemmas.Bool.{cases_lt, cases_eq}
use Rattle.std.proofs.lemmas.Grind.{common_steps}
use Rattle.sftp_contents.specs.declared.store.Store.{Store}
use Rattle.sftp_contents.specs.Pieces.{piece_number, piece_offset, piece, page, byte_at, IsCut, AreCutPages}
use Rattle.sftp_contents.proofs.Positions.{number-below, offset-below, number-from, offset-from}
use Rattle.sftp_contents.proofs.Fronts.{front-piece, page-piece}
use Rattle.sftp_contents.proofs.Reach.{at-room, at-front, at-none}

pub taken-below : (xs : List ℕ) (count k : ℕ) → k < count → get_or (take count xs) k 0 ≡ get_or xs k 0
taken-below xs count k h = grind (arith, common_steps)

pub taken-from : (xs : List ℕ) (count k : ℕ) → count ≤ k → get_or (take count xs) k 0 ≡ 0
taken-from xs count k h = grind (arith, common_steps)

below-is : (i size was now : ℕ) → i < size → now ≡ was → now ≡ (if nat_lt i size then was else 0)
below-is i size was now h e = grind (arith, common_steps)

behind-is : (i size was now : ℕ) → size ≤ i → now ≡ 0 → now ≡ (if nat_lt i size then was else 0)
behind-is i size was now h e = grind (arith, common_steps)

-- cut by pieces: the piece of the size is cut, those behind it are gone
pub cut-by : (old new : Store) (r size : ℕ) → old.room ≡ r → new.room ≡ r
    → piece new (piece_number r size) ≡ take (piece_offset r size) (piece old (piece_number r size))
    → ((n : ℕ) → n < piece_number r size → piece new n ≡ piece old n)
    → ((n : ℕ) → piece_number r size < n → piece new n ≡ [])
    → IsCut size old new
unfolding IsCut
cut-by old new r size was room here low high i = elim (cases_lt i size) [
  | inl less ↦ below-is i size (byte_at old i) (byte_at new i) less
      (at-room new r i room ∙ below less ∙ sym (at-room old r i was))
  | inr more ↦ behind-is i size (byte_at old i) (byte_at new i) more (at-room new r i room ∙ behind more)
]
  where
    below : i < size → get_or (piece new (piece_number r i)) (piece_offset r i) 0 ≡ get_or (piece old (piece_number r i)) (piece_offset r i) 0
    below h = elim (cases_eq (piece_number r i) (piece_number r size)) [
      | inl is ↦ let w = offset-below r i size h is in
          rw (is, here) (taken-below (piece old (piece_number r size)) (piece_offset r size) (piece_offset r i) w)
      | inr differ ↦ let le = number-below r i size h in
          ap (λ p. get_or p (piece_offset r i) 0) (low (piece_number r i) (omega arith))
    ]

    behind : size ≤ i → get_or (piece new (piece_number r i)) (piece_offset r i) 0 ≡ 0
    behind h = elim (cases_eq (piece_number r i) (piece_number r size)) [
      | inl is ↦ let w = offset-from r i size h is in
          rw (is, here) (taken-from (piece old (piece_number r size)) (piece_offset r size) (piece_offset r i) w)
      | inr differ ↦ let le = number-from r i size h in
          ap (λ p. get_or p (piece_offset r i) 0) (high (piece_number r i) (omega arith))
    ]

in-front : (r size : ℕ) → piece_number r size ≡ 0 → size < r
unfolding piece_number
in-front r size at = grind (arith, common_steps)

offset-in-front : (r size : ℕ) → size < r → piece_offset r size ≡ size
unfolding piece_offset
offset-in-front r size less = grind (arith, common_steps)

-- cut in the front: the pages are gone, and begin from now on wherever the front that stays has ended
pub cut-front : (old new : Store) (size : ℕ) → piece_number old.room size ≡ 0 → size ≤ new.room
    → new.front.items ≡ take (piece_offset old.room size) old.front.items → new.pages.entries ≡ [] → IsCut size old new
unfolding IsCut
cut-front old new size at room is none i =
    let within : size < old.room = in-front old.room size at in
    let front : new.front.items ≡ take size old.front.items =
    is ∙ ap (λ n. take n old.front.items) (offset-in-front old.room size within) in
    elim (cases_lt i size) [
      | inl less ↦ below-is i size (byte_at old i) (byte_at new i) less
          (at-front new i (omega arith) ∙ ap (λ xs. get_or xs i 0) front ∙ taken-below old.front.items size i less
          ∙ sym (at-front old i (omega arith)))
      | inr more ↦ behind-is i size (byte_at old i) (byte_at new i) more (elim (cases_lt i new.room) [
        | inl before ↦ at-front new i before ∙ ap (λ xs. get_or xs i 0) front
            ∙ taken-from old.front.items size i more
        | inr behind ↦ at-none new i behind none
      ])
    ]

pub cut-behind : (old new : Store) (r size : ℕ) → old.room ≡ r → new.room ≡ r → piece_number r size ≢ 0
    → new.front ≡ old.front
    → AreCutPages (piece_number r size - 1) (piece_offset r size) old.pages.entries new.pages.entries → IsCut size old new
unfolding AreCutPages
cut-behind old new r size was room apart same pages = cut-by old new r size was room
    (page-piece new _ apart ∙ pages.0 ∙ ap (take (piece_offset r size)) (sym (page-piece old _ apart)))
    (λ n h. elim (cases_eq n 0) [
      | inl z ↦ front-piece new n z ∙ ap (λ f. f.items) same ∙ sym (front-piece old n z)
      | inr some ↦ page-piece new n some ∙ pages.1 (n - 1) (omega arith) ∙ sym (page-piece old n some)
    ])
    (λ n h. let some : n ≢ 0 = omega arith in page-piece new n some ∙ pages.2 (n - 1) (omega arith))
