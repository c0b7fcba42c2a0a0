-- A whole content.
use Rattle.std.proofs.Common.{◌≡◌, ◌≢◌, ℕ, ◌+◌, ◌-◌, ◌<◌, ◌≤◌, List, [], ◌∷◌, ◌++◌, length, take, drop, zero, suc}
use Rattle.std.proofs.Common.{refl, ap, sym, ◌∙◌, arith, inl, inr, get_or, append_assoc}
use Rattle.std.specs.Prelude.{nat_lt, if◌then◌else◌, max, min, slice_index, replicate}
use Rattle.std.proofs.lemmas.Bool.{cases_lt}
use Rattle.std.proofs.lemmas.List.{get_or_past, length-take, length-drop}
use Rattle.std.proofs.lemmas.Grind.{common_steps}
use Rattle.sftp_contents.specs.declared.store.Store.{Store}
use Rattle.sftp_contents.specs.Bytes.{resized, overwritten, patched, tabulate}
use Rattle.sftp_contents.specs.Pieces.{piece_number, piece_offset, piece_left, piece, byte_at, bytes_of, IsCut, IsZeroBehind}
use Rattle.sftp_contents.proofs.Tabulated.{Ends, tabulate-length, tabulate-shift, tabulate-rest, resized-tabulate, written-tabulate, patched-behind}
use Rattle.sftp_contents.proofs.Tabulated.{tabulate-part, tabulate-zeros, tabulate-past, tabulate-none, tabulate-drop, tabulate-take, tabulate-whole, tabulate-split}
use Rattle.sftp_contents.proofs.Positions.{same-number, same-offset}
use Rattle.sftp_contents.proofs.Fronts.{front-piece, page-piece}
use Rattle.sftp_contents.proofs.Pages.{empty-page}
use Rattle.sftp_contents.proofs.Reach.{at-room, at-front, at-none}

pub ends : (s : Store) (len : ℕ) → IsZeroBehind s len → Ends (byte_at s) len
unfolding IsZeroBehind
ends s len zeros = zeros

pub zeros-from : (s : Store) (len : ℕ) → ((i : ℕ) → len ≤ i → byte_at s i ≡ 0) → IsZeroBehind s len
unfolding IsZeroBehind
zeros-from s len zeros = zeros

pub view-length : (s : Store) (len : ℕ) → length (bytes_of s len) ≡ len
unfolding bytes_of
view-length s len = tabulate-length (byte_at s) 0 len

pub view-same : (old new : Store) (len : ℕ) → ((i : ℕ) → i < len → byte_at new i ≡ byte_at old i)
    → bytes_of new len ≡ bytes_of old len
unfolding bytes_of
view-same old new len same = tabulate-shift (byte_at new) (byte_at old) 0 0 len
    (λ i j h k e. let x : i ≡ j = omega arith in same i (omega arith) ∙ ap (byte_at old) x)

pub view-resized : (old new : Store) (len size : ℕ) → IsZeroBehind old len
    → ((i : ℕ) → i < size → byte_at new i ≡ byte_at old i) → bytes_of new size ≡ resized size (bytes_of old len)
unfolding bytes_of
view-resized old new len size zeros same =
    view-same old new size same ∙ sym (resized-tabulate (byte_at old) len size (ends old len zeros))

pub view-written : (old new : Store) (len size offset : ℕ) (bytes : List ℕ) → IsZeroBehind old len
    → ((i : ℕ) → byte_at new i ≡ patched (byte_at old) offset bytes i) → size ≡ max len (offset + length bytes)
    → bytes_of new size ≡ overwritten offset bytes (bytes_of old len)
unfolding bytes_of
view-written old new len size offset bytes zeros is e =
    written-tabulate (byte_at old) (byte_at new) len size offset bytes (ends old len zeros) is e

pub zeros-written : (old new : Store) (len size offset : ℕ) (bytes : List ℕ) → IsZeroBehind old len
    → ((i : ℕ) → byte_at new i ≡ patched (byte_at old) offset bytes i) → size ≡ max len (offset + length bytes)
    → IsZeroBehind new size
zeros-written old new len size offset bytes zeros is e = zeros-from new size (λ i h.
    is i ∙ patched-behind (byte_at old) offset bytes i (omega arith) ∙ ends old len zeros i (omega arith))

pub zeros-same : (old new : Store) (len : ℕ) → IsZeroBehind old len → ((i : ℕ) → byte_at new i ≡ byte_at old i)
    → IsZeroBehind new len
zeros-same old new len zeros same = zeros-from new len (λ i h. same i ∙ ends old len zeros i h)

pub view-front : (s : Store) (len : ℕ) → length s.front.items ≡ len → len ≤ s.room → bytes_of s len ≡ s.front.items
unfolding bytes_of
view-front s len e fits = tabulate-shift (byte_at s) (slice_index s.front.items) 0 0 len
    (λ i j h k d. let x : i ≡ j = omega arith in at-front s i (omega arith) ∙ ap (λ t. get_or s.front.items t 0) x)
    ∙ tabulate-rest s.front.items 0 len (omega arith)

pub zeros-front : (s : Store) (len : ℕ) → length s.front.items ≡ len → len ≤ s.room → s.pages.entries ≡ []
    → IsZeroBehind s len
zeros-front s len e fits none = zeros-from s len (λ i h. elim (cases_lt i s.room) [
  | inl below ↦ at-front s i below ∙ get_or_past s.front.items i 0 (omega arith)
  | inr above ↦ at-none s i above none
])

-- a content that is cut
pub cut-kept : (old new : Store) (size i : ℕ) → IsCut size old new → i < size → byte_at new i ≡ byte_at old i
unfolding IsCut
cut-kept old new size i cut h = cut i ∙ kept (byte_at old i)
  where
    kept : (b : ℕ) → (if nat_lt i size then b else 0) ≡ b
    kept b = grind (arith, common_steps)

pub cut-zeros : (old new : Store) (size : ℕ) → IsCut size old new → IsZeroBehind new size
unfolding IsCut
cut-zeros old new size cut = zeros-from new size (λ i h. cut i ∙ gone i h (byte_at old i))
  where
    gone : (i : ℕ) → size ≤ i → (b : ℕ) → (if nat_lt i size then b else 0) ≡ 0
    gone i h b = grind (arith, common_steps)

pub zeros-longer : (s : Store) (len size : ℕ) → len ≤ size → IsZeroBehind s len → IsZeroBehind s size
zeros-longer s len size h zeros = zeros-from s size (λ i k. ends s len zeros i (omega arith))

-- ---- parts

-- bytes that a piece keeps
pub kept-tabulate : (s : Store) (r at count : ℕ) → s.room ≡ r → count ≤ piece_left r at
    → piece_offset r at + count ≤ length (piece s (piece_number r at))
    → tabulate (byte_at s) at count ≡ take count (drop (piece_offset r at) (piece s (piece_number r at)))
kept-tabulate s r at count room fits kept =
    tabulate-shift (byte_at s) (slice_index (piece s (piece_number r at))) at (piece_offset r at) count
    (λ i j h k e.
    let n : piece_number r i ≡ piece_number r at = same-number r at i h (omega arith) in
    let w : piece_offset r i ≡ piece_offset r at + (i - at) = same-offset r at i h (omega arith) in
    let x : piece_offset r i ≡ j = omega arith in
    at-room s r i room ∙ ap (λ t. get_or (piece s t) (piece_offset r i) 0) n
    ∙ ap (λ t. get_or (piece s (piece_number r at)) t 0) x)
    ∙ tabulate-part (piece s (piece_number r at)) (piece_offset r at) count kept

-- zeros that a piece does not keep
pub hole-tabulate : (s : Store) (r at count : ℕ) → s.room ≡ r → count ≤ piece_left r at
    → length (piece s (piece_number r at)) ≤ piece_offset r at → tabulate (byte_at s) at count ≡ replicate count 0
hole-tabulate s r at count room fits past = tabulate-zeros (byte_at s) at count (λ i h k.
    let n : piece_number r i ≡ piece_number r at = same-number r at i h (omega arith) in
    let w : piece_offset r i ≡ piece_offset r at + (i - at) = same-offset r at i h (omega arith) in
    at-room s r i room ∙ ap (λ t. get_or (piece s t) (piece_offset r i) 0) n
    ∙ get_or_past (piece s (piece_number r at)) (piece_offset r i) 0 (omega arith))

pub part-length : (done here : ℕ) (new : List ℕ) → done + here ≤ length new
    → length (take (done + here - done) (drop done new)) ≡ here
part-length done here new h = simp (length-take, length-drop) (omega arith)

-- a range of a whole content
pub range-of : (s : Store) (len offset most start count : ℕ) → start ≡ min offset len → count ≡ min most (len - start)
    → take most (drop offset (bytes_of s len)) ≡ tabulate (byte_at s) start count
unfolding bytes_of
range-of s len offset most start count e d = elim (cases_lt len offset) [
  | inl past ↦
      let none : drop offset (tabulate (byte_at s) 0 len) ≡ [] = tabulate-past (byte_at s) 0 offset len (omega arith) in
      let z : count ≡ 0 = omega arith in
      rw (none, z) (taken-none most ∙ sym (tabulate-none (byte_at s) start))
  | inr in_it ↦
      let x : start ≡ offset = omega arith in
      let rest : drop offset (tabulate (byte_at s) 0 len) ≡ tabulate (byte_at s) start (len - start) =
      tabulate-drop (byte_at s) 0 offset len start (len - start) (omega arith) (omega arith) in
      rw rest (elim (cases_lt most (len - start)) [
        | inl less ↦ let c : count ≡ most = omega arith in
            rw c (tabulate-take (byte_at s) start most (len - start) (omega arith))
        | inr all ↦ let c : count ≡ len - start = omega arith in
            rw c (tabulate-whole (byte_at s) start most (len - start) all)
      ])
]
  where
    taken-none : (n : ℕ) → take {A = ℕ} n [] ≡ []
    taken-none zero = refl
    taken-none (suc n) = refl

-- a range of which some parts were read
pub read-more : (f : ℕ → ℕ) (before now after part : List ℕ) (offset done here : ℕ)
    → now ≡ before ++ tabulate f offset done → after ≡ now ++ part → part ≡ tabulate f (offset + done) here
    → after ≡ before ++ tabulate f offset (done + here)
read-more f before now after part offset done here was is from =
    is ∙ ap (λ t. t ++ part) was ∙ append_assoc before (tabulate f offset done) part
    ∙ ap (λ t. before ++ (tabulate f offset done ++ t)) from
    ∙ ap (λ t. before ++ t) (sym (tabulate-split f offset done here (offset + done) (done + here) refl refl))

pub part-of : (s : Store) (len at count : ℕ) (part : List ℕ) → at + count ≤ len → part ≡ tabulate (byte_at s) at count
    → part ≡ take count (drop at (bytes_of s len))
part-of s len at count part fits is =
    is ∙ sym (range-of s len at count at count (omega arith) (omega arith))

pub join : (xs : List ℕ) (n m t : ℕ) → n + m ≡ t → take n xs ++ take m (drop n xs) ≡ take t xs
join xs zero m t e = let x : m ≡ t = omega arith in ap (λ k. take k xs) x
join [] (suc n) m zero e = absurd (omega arith)
join [] (suc n) zero (suc t) e = refl
join [] (suc n) (suc m) (suc t) e = refl
join (x ∷ xs) (suc n) m zero e = absurd (omega arith)
join (x ∷ xs) (suc n) m (suc t) e = ap (λ r. x ∷ r) (join xs n m t (omega arith))

-- a range compared so far
pub same-more : (f : ℕ → ℕ) (given part : List ℕ) (offset done here : ℕ) → done + here ≤ length given
    → tabulate f offset done ≡ take done given → part ≡ tabulate f (offset + done) here → part ≡ take here (drop done given)
    → tabulate f offset (done + here) ≡ take (done + here) given
same-more f given part offset done here fits so from same =
    tabulate-split f offset done here (offset + done) (done + here) refl refl
    ∙ ap (λ t. t ++ tabulate f (offset + done) here) so ∙ ap (λ t. take done given ++ t) (sym from ∙ same)
    ∙ join given done here (done + here) refl

pub apart-here : (f : ℕ → ℕ) (given part : List ℕ) (offset done here : ℕ) → done + here ≤ length given
    → part ≡ tabulate f (offset + done) here → tabulate f offset (length given) ≡ given → part ≡ take here (drop done given)
apart-here f given part offset done here fits from same =
    let d : drop done (tabulate f offset (length given)) ≡ tabulate f (offset + done) (length given - done) =
    tabulate-drop f offset done (length given) (offset + done) (length given - done) refl (omega arith) in
    let t : take here (tabulate f (offset + done) (length given - done)) ≡ tabulate f (offset + done) here =
    tabulate-take f (offset + done) here (length given - done) (omega arith) in
    from ∙ sym t ∙ ap (take here) (sym d) ∙ ap (λ xs. take here (drop done xs)) same
