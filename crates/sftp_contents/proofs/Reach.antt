-- What is done to pieces, seen at the bytes of a content.
use Rattle.std.proofs.Common.{◌≡◌, ◌≢◌, ℕ, ◌+◌, ◌-◌, ◌<◌, ◌≤◌, List, [], ◌++◌, length}
use Rattle.std.proofs.Common.{refl, ap, sym, subst, ◌∙◌, arith, ◌⊎◌, inl, inr, get_or}
use Rattle.std.specs.Prelude.{replicate, slice_index}
use Rattle.std.proofs.lemmas.Bool.{cases_lt, cases_eq}
use Rattle.std.proofs.lemmas.Grind.{common_steps}
use Rattle.sftp_contents.specs.declared.store.Store.{Store}
use Rattle.sftp_contents.specs.Bytes.{patched}
use Rattle.sftp_contents.specs.Pieces.{piece_number, piece_offset, piece_left, piece, at_piece, byte_at, IsKept, IsWithPiece, AreSamePieces}
use Rattle.sftp_contents.proofs.Fronts.{front-piece, page-piece}
use Rattle.sftp_contents.proofs.Pages.{empty-page}
use Rattle.sftp_contents.proofs.Tabulated.{patched-there, patched-before, patched-behind}
use Rattle.sftp_contents.proofs.Positions.{same-number, same-offset, one-place}
use Rattle.sftp_contents.proofs.Splices.{zeros-behind, lengthened, not-shortened, spliced, spliced-before, spliced-there}
use Rattle.sftp_contents.proofs.Splices.{spliced-behind, spliced-length, spliced-end}

-- the byte at a number, with the pages beginning there
pub at-room : (s : Store) (r i : ℕ) → s.room ≡ r → byte_at s i ≡ get_or (piece s (piece_number r i)) (piece_offset r i) 0
unfolding byte_at at_piece
at-room s r i e = ap (λ (t : ℕ). get_or (piece s (piece_number t i)) (piece_offset t i) 0) e

pub kept-at : (s : Store) (r i : ℕ) → s.room ≡ r → piece_offset r i < length (piece s (piece_number r i)) → IsKept s i
unfolding IsKept
kept-at s r i e h = subst (λ (t : ℕ). piece_offset t i < length (piece s (piece_number t i))) (sym e) h

pub kept-is : (s : Store) (i : ℕ) → IsKept s i → piece_offset s.room i < length (piece s (piece_number s.room i))
unfolding IsKept
kept-is s i kept = kept

pub bytes-from_pieces : (old new : Store) → new.room ≡ old.room
    → ((n k : ℕ) → get_or (piece new n) k 0 ≡ get_or (piece old n) k 0) → (i : ℕ) → byte_at new i ≡ byte_at old i
bytes-from_pieces old new room same i =
    at-room new old.room i room ∙ same (piece_number old.room i) (piece_offset old.room i) ∙ sym (at-room old old.room i refl)

pub same-bytes : (old new : Store) → new.room ≡ old.room → AreSamePieces old new → (i : ℕ) → byte_at new i ≡ byte_at old i
unfolding AreSamePieces
same-bytes old new room same = bytes-from_pieces old new room (λ n k. ap (λ p. get_or p k 0) (same n))

pub lengthened-bytes : (old new : Store) (n end : ℕ) → new.room ≡ old.room
    → IsWithPiece n (piece old n ++ replicate (end - length (piece old n)) 0) old new
    → (i : ℕ) → byte_at new i ≡ byte_at old i
unfolding IsWithPiece
lengthened-bytes old new n end room with = bytes-from_pieces old new room (λ m k. elim (cases_eq m n) [
  | inl is ↦ rw is (ap (λ p. get_or p k 0) with.0 ∙ zeros-behind (piece old n) (end - length (piece old n)) k)
  | inr differ ↦ ap (λ p. get_or p k 0) (with.1 m differ)
])

-- a byte stays kept where its piece keeps no fewer
pub kept-still : (old new : Store) (i : ℕ) → new.room ≡ old.room
    → ((n : ℕ) → length (piece old n) ≤ length (piece new n)) → IsKept old i → IsKept new i
kept-still old new i room longer kept =
    let k = kept-is old i kept in
    let l = longer (piece_number old.room i) in
    kept-at new old.room i room (omega arith)

pub lengthened-longer : (old new : Store) (n end : ℕ)
    → IsWithPiece n (piece old n ++ replicate (end - length (piece old n)) 0) old new
    → (m : ℕ) → length (piece old m) ≤ length (piece new m)
unfolding IsWithPiece
lengthened-longer old new n end with m = elim (cases_eq m n) [
  | inl is ↦ rw (is, with.0) (not-shortened (piece old n) (replicate (end - length (piece old n)) 0))
  | inr differ ↦ let e = ap length (with.1 m differ) in omega arith
]

pub lengthened-here : (old new : Store) (r start here : ℕ) → new.room ≡ r → here ≤ piece_left r start
    → IsWithPiece (piece_number r start) (piece old (piece_number r start)
    ++ replicate (piece_offset r start + here - length (piece old (piece_number r start))) 0) old new
    → (i : ℕ) → start ≤ i → i < start + here → IsKept new i
unfolding IsWithPiece
lengthened-here old new r start here room fits with i h k =
    let n : ℕ = piece_number r start in
    let w : ℕ = piece_offset r start in
    let e : piece_number r i ≡ n = same-number r start i h (omega arith) in
    let d : piece_offset r i ≡ w + (i - start) = same-offset r start i h (omega arith) in
    let l : w + here ≤ length (piece old n ++ replicate (w + here - length (piece old n)) 0) =
    lengthened (piece old n) (w + here) in
    kept-at new r i room (rw (e, d, with.0) (omega arith))

-- where the bytes of a range are kept, its piece keeps as many
pub kept-part : (s : Store) (r start here : ℕ) → s.room ≡ r → 0 < here → here ≤ piece_left r start
    → ((i : ℕ) → start ≤ i → i < start + here → IsKept s i) → piece_offset r start + here ≤ length (piece s (piece_number r start))
unfolding IsKept
kept-part s r start here room some fits kept =
    let i : ℕ = start + (here - 1) in
    let e : piece_number r i ≡ piece_number r start = same-number r start i (omega arith) (omega arith) in
    let d : piece_offset r i ≡ piece_offset r start + (i - start) = same-offset r start i (omega arith) (omega arith) in
    let k : piece_offset r i < length (piece s (piece_number r i)) =
    subst (λ (t : ℕ). piece_offset t i < length (piece s (piece_number t i))) room (kept i (omega arith) (omega arith)) in
    let l : piece_offset r i < length (piece s (piece_number r start)) = subst (λ n. piece_offset r i < length (piece s n)) e k in
    omega arith

pub filled-longer : (old new : Store) (n w : ℕ) (part : List ℕ) → w + length part ≤ length (piece old n)
    → IsWithPiece n (spliced (piece old n) w part) old new → (m : ℕ) → length (piece old m) ≤ length (piece new m)
unfolding IsWithPiece
filled-longer old new n w part fits with m = elim (cases_eq m n) [
  | inl is ↦
      let l : length (spliced (piece old n) w part) ≡ length (piece old n) =
      spliced-length (piece old n) w part fits in
      rw (is, with.0, l) (omega arith)
  | inr differ ↦ let e = ap length (with.1 m differ) in omega arith
]

pub filled-bytes : (old new : Store) (r start : ℕ) (part : List ℕ) → old.room ≡ r → new.room ≡ r
    → length part ≤ piece_left r start
    → piece_offset r start ≤ length (piece old (piece_number r start))
    → IsWithPiece (piece_number r start)
    (spliced (piece old (piece_number r start)) (piece_offset r start) part) old new
    → (i : ℕ) → byte_at new i ≡ patched (byte_at old) start part i
unfolding IsWithPiece
filled-bytes old new r start part was room fits kept with i = elim (cases_lt i start) [
  | inl before ↦ outside (inl before) ∙ sym (patched-before (byte_at old) start part i before)
  | inr from ↦ elim (cases_lt i (start + length part)) [
    | inl there ↦ inside from there ∙ sym (patched-there (byte_at old) start part i from there)
    | inr behind ↦ outside (inr behind) ∙ sym (patched-behind (byte_at old) start part i behind)
  ]
]
  where
    inside : start ≤ i → i < start + length part → byte_at new i ≡ slice_index part (i - start)
    inside h k =
        let n : ℕ = piece_number r start in
        let w : ℕ = piece_offset r start in
        let e : piece_number r i ≡ n = same-number r start i h (omega arith) in
        let d : piece_offset r i ≡ w + (i - start) = same-offset r start i h (omega arith) in
        let s : get_or (spliced (piece old n) w part) (w + (i - start)) 0 ≡ get_or part (i - start) 0 =
        spliced-there (piece old n) w part (w + (i - start)) (i - start) refl (omega arith) (omega arith) in
        at-room new r i room ∙ rw (e, d, with.0) s

    apart : (i < start) ⊎ (start + length part ≤ i)
        → get_or (piece new (piece_number r i)) (piece_offset r i) 0 ≡ get_or (piece old (piece_number r i)) (piece_offset r i) 0
    apart out = elim (cases_eq (piece_number r i) (piece_number r start)) [
      | inr differ ↦ ap (λ p. get_or p (piece_offset r i) 0) (with.1 (piece_number r i) differ)
      | inl is ↦
          let p : List ℕ = piece old (piece_number r start) in
          let w : ℕ = piece_offset r start in
          let k : ℕ = piece_offset r i in
          elim (cases_lt k w) [
            | inl less ↦ rw (is, with.0) (spliced-before p w part k less (omega arith))
            | inr more ↦ elim (cases_lt k (w + length part)) [
              | inr past ↦ rw (is, with.0) (spliced-behind p w part k past kept)
              | inl among ↦
                  let j : ℕ = start + (k - w) in
                  let e : piece_number r j ≡ piece_number r start =
                  same-number r start j (omega arith) (omega arith) in
                  let d : piece_offset r j ≡ w + (j - start) =
                  same-offset r start j (omega arith) (omega arith) in
                  let one : i ≡ j = one-place r i j (is ∙ sym e) (omega arith) in
                  absurd (elim out [ inl a ↦ omega arith | inr b ↦ omega arith ])
            ]
          ]
    ]

    outside : (i < start) ⊎ (start + length part ≤ i) → byte_at new i ≡ byte_at old i
    outside out = at-room new r i room ∙ apart out ∙ sym (at-room old r i was)

pub appended-bytes : (old new : Store) (r start : ℕ) (part : List ℕ) → old.room ≡ r → new.room ≡ r
    → length part ≤ piece_left r start → piece_offset r start ≡ length (piece old (piece_number r start))
    → IsWithPiece (piece_number r start) (piece old (piece_number r start) ++ part) old new
    → (i : ℕ) → byte_at new i ≡ patched (byte_at old) start part i
unfolding IsWithPiece
appended-bytes old new r start part was room fits end with =
    filled-bytes old new r start part was room fits (omega arith)
    (with.0 ∙ spliced-end (piece old (piece_number r start)) part (piece_offset r start) end, with.1)

-- a content whose pages have nothing
pub at-front : (s : Store) (i : ℕ) → i < s.room → byte_at s i ≡ get_or s.front.items i 0
unfolding piece_number piece_offset
at-front s i h =
    let n : piece_number s.room i ≡ 0 = grind (arith, common_steps) in
    let w : piece_offset s.room i ≡ i = grind (arith, common_steps) in
    at-room s s.room i refl ∙ ap (λ p. get_or p (piece_offset s.room i) 0) (front-piece s (piece_number s.room i) n)
    ∙ ap (λ k. get_or s.front.items k 0) w

pub at-none : (s : Store) (i : ℕ) → s.room ≤ i → s.pages.entries ≡ [] → byte_at s i ≡ 0
unfolding piece_number
at-none s i h none =
    let n : piece_number s.room i ≢ 0 = grind (arith, common_steps) in
    at-room s s.room i refl
    ∙ ap (λ p. get_or p (piece_offset s.room i) 0) (page-piece s (piece_number s.room i) n ∙ empty-page s.pages (piece_number s.room i - 1) none)
