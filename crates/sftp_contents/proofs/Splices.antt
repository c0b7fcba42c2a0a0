-- Bytes put into lists and functions.
use Rattle.std.proofs.Common.{◌≡◌, ℕ, ◌+◌, ◌-◌, ◌<◌, ◌≤◌, List, [], ◌∷◌, ◌++◌, length, take, drop, zero, suc}
use Rattle.std.proofs.Common.{refl, ap, sym, arith, inl, inr, get_or, length-append}
use Rattle.std.specs.Prelude.{replicate}
use Rattle.std.proofs.lemmas.Bool.{cases_lt}
use Rattle.std.proofs.lemmas.List.{length-take, length-drop, length-replicate}
use Rattle.std.proofs.Math.ListN.{drop_of_length-le}
use Rattle.std.proofs.lemmas.List.{take_all, append-nil}
use Rattle.std.proofs.lemmas.Grind.{common_steps}
use Rattle.sftp_contents.specs.Bytes.{patched}
use Rattle.sftp_contents.proofs.Tabulated.{patched-before, patched-behind}

zeros-at : (r k : ℕ) → get_or {A = ℕ} (replicate {A = ℕ} r 0) k 0 ≡ 0
zeros-at zero k = refl
zeros-at (suc r) zero = refl
zeros-at (suc r) (suc k) = zeros-at r k

-- zeros that are appended change no byte
pub zeros-behind : (xs : List ℕ) (r k : ℕ) → get_or (xs ++ replicate {A = ℕ} r 0) k 0 ≡ get_or xs k 0
zeros-behind [] r k = zeros-at r k
zeros-behind (x ∷ xs) r zero = refl
zeros-behind (x ∷ xs) r (suc k) = zeros-behind xs r k

pub lengthened : (xs : List ℕ) (end : ℕ) → end ≤ length (xs ++ replicate (end - length xs) 0)
lengthened xs end = simp (length-append, length-replicate) (omega arith)

pub not-shortened : (xs ys : List ℕ) → length xs ≤ length (xs ++ ys)
not-shortened xs ys = simp length-append (omega arith)

abbrev pub spliced : List ℕ → ℕ → List ℕ → List ℕ
spliced p w part = take w p ++ (part ++ drop (w + length part) p)

pub spliced-before : (p : List ℕ) (w : ℕ) (part : List ℕ) (k : ℕ) → k < w → w ≤ length p
    → get_or (spliced p w part) k 0 ≡ get_or p k 0
spliced-before p w part k h l = grind (arith, common_steps)

pub spliced-there : (p : List ℕ) (w : ℕ) (part : List ℕ) (k j : ℕ) → w + j ≡ k → j < length part → w ≤ length p
    → get_or (spliced p w part) k 0 ≡ get_or part j 0
spliced-there p w part k j e h l = grind (arith, common_steps)

pub spliced-behind : (p : List ℕ) (w : ℕ) (part : List ℕ) (k : ℕ) → w + length part ≤ k → w ≤ length p
    → get_or (spliced p w part) k 0 ≡ get_or p k 0
spliced-behind p w part k h l = grind (arith, common_steps)

pub spliced-end : (p part : List ℕ) (w : ℕ) → w ≡ length p → p ++ part ≡ spliced p w part
spliced-end p part w e =
    let t : take w p ≡ p = take_all w p (omega arith) in
    let d : drop (w + length part) p ≡ [] = drop_of_length-le p (omega arith) in
    rw (t, d) (ap (λ x. p ++ x) (sym (append-nil part)))

pub spliced-length : (p : List ℕ) (w : ℕ) (part : List ℕ) → w + length part ≤ length p
    → length (spliced p w part) ≡ length p
spliced-length p w part l = simp (length-append, length-take, length-drop) (omega arith)

-- ---- functions

pub patched-none : (f : ℕ → ℕ) (start i : ℕ) → patched f start [] i ≡ f i
patched-none f start i = elim (cases_lt i start) [ inl h ↦ patched-before f start [] i h | inr h ↦ patched-behind f start [] i (omega arith) ]

pub patched-more : (f : ℕ → ℕ) (start : ℕ) (new : List ℕ) (done here i : ℕ) → done + here ≤ length new
    → patched (patched f start (take done new)) (start + done) (take here (drop done new)) i
    ≡ patched f start (take (done + here) new) i
unfolding patched
patched-more f start new done here i h = grind (arith, common_steps)

pub patched-over : (f g : ℕ → ℕ) (start : ℕ) (new : List ℕ) (i : ℕ) → f i ≡ g i
    → patched f start new i ≡ patched g start new i
unfolding patched
patched-over f g start new i same = rw same refl
