-- What a function gives for the numbers from one on, as a list.
use Rattle.std.proofs.Common.{◌≡◌, ℕ, zero, suc, ◌+◌, ◌-◌, ◌<◌, ◌≤◌, List, [], ◌∷◌, ◌++◌, length, get_or, take, drop}
use Rattle.std.proofs.Common.{refl, ap, sym, ◌∙◌, arith, drop-cons}
use Rattle.std.specs.Prelude.{replicate, max, slice_index}
use Rattle.std.proofs.lemmas.Grind.{common_steps}
use Rattle.std.proofs.lemmas.List.{append-nil}
use Rattle.sftp_contents.specs.Bytes.{tabulate, patched, resized, overwritten}

pub tabulate-length : (f : ℕ → ℕ) (a n : ℕ) → length (tabulate f a n) ≡ n
unfolding tabulate
tabulate-length f a zero = refl
tabulate-length f a (suc n) = ap suc (tabulate-length f (suc a) n)

-- two functions that give the same
pub tabulate-shift : (f g : ℕ → ℕ) (a b n : ℕ)
    → ((i j : ℕ) → a ≤ i → i < a + n → i + b ≡ j + a → f i ≡ g j) → tabulate f a n ≡ tabulate g b n
unfolding tabulate
tabulate-shift f g a b zero same = refl
tabulate-shift f g a b (suc n) same =
    let first : f a ≡ g b = same a b (omega arith) (omega arith) (omega arith) in
    let rest : tabulate f (suc a) n ≡ tabulate g (suc b) n =
    tabulate-shift f g (suc a) (suc b) n (λ i j h k e. same i j (omega arith) (omega arith) (omega arith)) in
    cc

pub tabulate-split : (f : ℕ → ℕ) (a m n b t : ℕ) → a + m ≡ b → m + n ≡ t → tabulate f a t ≡ tabulate f a m ++ tabulate f b n
unfolding tabulate
tabulate-split f a zero n b t e d =
    let x : a ≡ b = omega arith in
    let y : n ≡ t = omega arith in
    cc
tabulate-split f a (suc m) n b zero e d = absurd (omega arith)
tabulate-split f a (suc m) n b (suc t) e d =
    ap (λ rest. f a ∷ rest) (tabulate-split f (suc a) m n b t (omega arith) (omega arith))

pub tabulate-take : (f : ℕ → ℕ) (a n m : ℕ) → n ≤ m → take n (tabulate f a m) ≡ tabulate f a n
unfolding tabulate
tabulate-take f a zero m h = refl
tabulate-take f a (suc n) zero h = absurd (omega arith)
tabulate-take f a (suc n) (suc m) h = ap (λ rest. f a ∷ rest) (tabulate-take f (suc a) n m (omega arith))

pub tabulate-drop : (f : ℕ → ℕ) (a n m b r : ℕ) → a + n ≡ b → n + r ≡ m → drop n (tabulate f a m) ≡ tabulate f b r
unfolding tabulate
tabulate-drop f a zero m b r e d =
    let x : a ≡ b = omega arith in
    let y : m ≡ r = omega arith in
    cc
tabulate-drop f a (suc n) zero b r e d = absurd (omega arith)
tabulate-drop f a (suc n) (suc m) b r e d = tabulate-drop f (suc a) n m b r (omega arith) (omega arith)

pub tabulate-past : (f : ℕ → ℕ) (a n m : ℕ) → m ≤ n → drop n (tabulate f a m) ≡ []
unfolding tabulate
tabulate-past f a zero zero h = refl
tabulate-past f a (suc n) zero h = refl
tabulate-past f a zero (suc m) h = absurd (omega arith)
tabulate-past f a (suc n) (suc m) h = tabulate-past f (suc a) n m (omega arith)

pub tabulate-whole : (f : ℕ → ℕ) (a n m : ℕ) → m ≤ n → take n (tabulate f a m) ≡ tabulate f a m
unfolding tabulate
tabulate-whole f a zero zero h = refl
tabulate-whole f a (suc n) zero h = refl
tabulate-whole f a zero (suc m) h = absurd (omega arith)
tabulate-whole f a (suc n) (suc m) h = ap (λ rest. f a ∷ rest) (tabulate-whole f (suc a) n m (omega arith))

-- the bytes of a list
pub tabulate-rest : (xs : List ℕ) (a r : ℕ) → a + r ≡ length xs → tabulate (slice_index xs) a r ≡ drop a xs
unfolding tabulate
tabulate-rest xs a zero e =
    let d : length xs ≤ a = omega arith in
    grind (arith, common_steps)
tabulate-rest xs a (suc r) e =
    let lt : a < length xs = omega arith in
    let d : drop a xs ≡ get_or xs a 0 ∷ drop (suc a) xs = drop-cons xs a 0 lt in
    let rest : tabulate (slice_index xs) (suc a) r ≡ drop (suc a) xs = tabulate-rest xs (suc a) r (omega arith) in
    cc

pub tabulate-part : (xs : List ℕ) (a c : ℕ) → a + c ≤ length xs → tabulate (slice_index xs) a c ≡ take c (drop a xs)
tabulate-part xs a c h =
    let r : ℕ = length xs - a in
    let all : tabulate (slice_index xs) a r ≡ drop a xs = tabulate-rest xs a r (omega arith) in
    sym (tabulate-take (slice_index xs) a c r (omega arith)) ∙ ap (take c) all

pub tabulate-zeros : (f : ℕ → ℕ) (a n : ℕ) → ((i : ℕ) → a ≤ i → i < a + n → f i ≡ 0) → tabulate f a n ≡ replicate n 0
unfolding tabulate
tabulate-zeros f a zero zeros = refl
tabulate-zeros f a (suc n) zeros =
    let first : f a ≡ 0 = zeros a (omega arith) (omega arith) in
    let rest : tabulate f (suc a) n ≡ replicate n 0 =
    tabulate-zeros f (suc a) n (λ i h k. zeros i (omega arith) (omega arith)) in
    cc

-- ---- the bytes of a content

-- no bytes but zeros are behind a length
abbrev pub Ends : (ℕ → ℕ) → ℕ → Type 0
Ends f len = (i : ℕ) → len ≤ i → f i ≡ 0

pub resized-tabulate : (f : ℕ → ℕ) (len size : ℕ) → Ends f len → resized size (tabulate f 0 len) ≡ tabulate f 0 size
resized-tabulate f len size ends = by_cases (size - len) refl
  where
    by_cases : (more : ℕ) → size - len ≡ more → resized size (tabulate f 0 len) ≡ tabulate f 0 size
    by_cases zero e =
        let l : length (tabulate f 0 len) ≡ len = tabulate-length f 0 len in
        let n : size - length (tabulate f 0 len) ≡ 0 = omega arith in
        let t : take size (tabulate f 0 len) ≡ tabulate f 0 size = tabulate-take f 0 size len (omega arith) in
        rw (n, t) (append-nil (tabulate f 0 size))
    by_cases (suc more) e =
        let l : length (tabulate f 0 len) ≡ len = tabulate-length f 0 len in
        let n : size - length (tabulate f 0 len) ≡ suc more = omega arith in
        let t : take size (tabulate f 0 len) ≡ tabulate f 0 len = tabulate-whole f 0 size len (omega arith) in
        let z : tabulate f len (suc more) ≡ replicate (suc more) 0 = tabulate-zeros f len (suc more) (λ i h k. ends i h) in
        let s : tabulate f 0 size ≡ tabulate f 0 len ++ tabulate f len (suc more) =
        tabulate-split f 0 len (suc more) len size (omega arith) (omega arith) in
        rw (n, t) (sym (s ∙ ap (λ rest. tabulate f 0 len ++ rest) z))

pub patched-there : (f : ℕ → ℕ) (start : ℕ) (new : List ℕ) (i : ℕ) → start ≤ i → i < start + length new
    → patched f start new i ≡ slice_index new (i - start)
unfolding patched
patched-there f start new i h k = grind (arith, common_steps)

pub patched-before : (f : ℕ → ℕ) (start : ℕ) (new : List ℕ) (i : ℕ) → i < start → patched f start new i ≡ f i
unfolding patched
patched-before f start new i h = grind (arith, common_steps)

pub patched-behind : (f : ℕ → ℕ) (start : ℕ) (new : List ℕ) (i : ℕ) → start + length new ≤ i
    → patched f start new i ≡ f i
unfolding patched
patched-behind f start new i h = grind (arith, common_steps)

pub tabulate-none : (f : ℕ → ℕ) (at : ℕ) → tabulate f at 0 ≡ []
unfolding tabulate
tabulate-none f at = refl

-- what is behind a place of bytes that end
pub drop-tabulate : (f : ℕ → ℕ) (len size at : ℕ) → size ≡ max len at → drop at (tabulate f 0 len) ≡ tabulate f at (size - at)
drop-tabulate f len size at e = by_cases (len - at) refl
  where
    by_cases : (more : ℕ) → len - at ≡ more → drop at (tabulate f 0 len) ≡ tabulate f at (size - at)
    by_cases zero d =
        let n : size - at ≡ 0 = omega arith in
        let p : drop at (tabulate f 0 len) ≡ [] = tabulate-past f 0 at len (omega arith) in
        rw n (p ∙ sym (tabulate-none f at))
    by_cases (suc more) d = tabulate-drop f 0 at len at (size - at) (omega arith) (omega arith)

pub written-tabulate : (f g : ℕ → ℕ) (len size offset : ℕ) (new : List ℕ) → Ends f len
    → ((i : ℕ) → g i ≡ patched f offset new i) → size ≡ max len (offset + length new)
    → tabulate g 0 size ≡ overwritten offset new (tabulate f 0 len)
written-tabulate f g len size offset new ends is e =
    let count : ℕ = length new in
    let end : ℕ = offset + count in
    let front : tabulate g 0 offset ≡ resized offset (tabulate f 0 len) =
    tabulate-shift g f 0 0 offset (λ i j h k d. let x : i ≡ j = omega arith in
    is i ∙ patched-before f offset new i (omega arith) ∙ ap f x)
    ∙ sym (resized-tabulate f len offset ends) in
    let middle : tabulate g offset count ≡ new =
    tabulate-shift g (slice_index new) offset 0 count (λ i j h k d. let x : i - offset ≡ j = omega arith in
    is i ∙ patched-there f offset new i h k ∙ ap (slice_index new) x)
    ∙ tabulate-rest new 0 count (omega arith) in
    let back : tabulate g end (size - end) ≡ drop end (tabulate f 0 len) =
    tabulate-shift g f end end (size - end) (λ i j h k d. let x : i ≡ j = omega arith in
    is i ∙ patched-behind f offset new i h ∙ ap f x)
    ∙ sym (drop-tabulate f len size end e) in
    let one : tabulate g 0 size ≡ tabulate g 0 offset ++ tabulate g offset (size - offset) =
    tabulate-split g 0 offset (size - offset) offset size (omega arith) (omega arith) in
    let two : tabulate g offset (size - offset) ≡ tabulate g offset count ++ tabulate g end (size - end) =
    tabulate-split g offset count (size - end) end (size - offset) refl (omega arith) in
    cc
