-- That the range which a request keeps to is its span, if its file is as long as that; and that spans stay.
use Rattle.sftp_handles.proofs.Imports.{◌≡◌, ◌==◌, ℕ, zero, suc, ◌+◌, ◌-◌, ◌≤◌, List, [], ◌∷◌, ◌++◌, length, take}
use Rattle.sftp_handles.proofs.Imports.{drop, false, if◌then◌else◌, refl, sym, ap, ◌∙◌, arith, ne_eqb, resized}
use Rattle.sftp_handles.proofs.Imports.{overwritten, ◌≢◌, Bool, true, Option, Some, None, Ask, OpenFlags}
use Rattle.sftp_handles.proofs.Imports.{asked_handle, TreeLimits, Content, content_at, limits, Open, File}
use Rattle.sftp_handles.proofs.Imports.{Listing, Left, open_at, State, Needed, anything, a_file, a_listing}
use Rattle.sftp_handles.proofs.Imports.{seen_among, seen_file, row_of, Change, Touched, everything}
use Rattle.sftp_handles.proofs.Imports.{touched, may_change, touched_by, touched_through}
use Rattle.std.specs.Prelude.{replicate}
use Rattle.sftp_tree.specs.Changes.{written}
use Rattle.sftp_packets.specs.declared.requests.Ask.TheVariants as asks
use Rattle.sftp_handles.specs.State.{seen}
use Rattle.sftp_handles.specs.Clash.{span, range_of, range_by, range}
use Rattle.sftp_handles.specs.Spans.{span_open, span_by, spanned, file_in, range_now}
use Rattle.sftp_handles.proofs.ClashLaws.{applied, IsChangeTo, part-stays}
use Rattle.sftp_handles.proofs.ClashLaws.{limits-stay}

-- ==== Bytes written over others, where all of them are: what stays, and that two writes apart may change places.

-- the bytes with the data in the place of those from the offset on; what is past the end is left out
abbrev pub over : ℕ → List ℕ → List ℕ → List ℕ
over offset new [] = []
over zero [] (b ∷ bs) = b ∷ bs
over zero (x ∷ xs) (b ∷ bs) = x ∷ over zero xs bs
over (suc offset) new (b ∷ bs) = b ∷ over offset new bs

pub over-length : (o : ℕ) (d bs : List ℕ) → length (over o d bs) ≡ length bs
over-length o d [] = refl
over-length zero [] (b ∷ bs) = refl
over-length zero (x ∷ xs) (b ∷ bs) = ap suc (over-length zero xs bs)
over-length (suc o) d (b ∷ bs) = ap suc (over-length o d bs)

pub over-nothing : (o : ℕ) (bs : List ℕ) → over o [] bs ≡ bs
over-nothing o [] = refl
over-nothing zero (b ∷ bs) = refl
over-nothing (suc o) (b ∷ bs) = ap (◌∷◌ b) (over-nothing o bs)

-- ---- what is read

-- bytes behind the data
pub over-behind : (o : ℕ) (d bs : List ℕ) (m : ℕ) → o + length d ≤ m → drop m (over o d bs) ≡ drop m bs
over-behind o d [] m le = refl
over-behind zero [] (b ∷ bs) m le = refl
over-behind zero (x ∷ xs) (b ∷ bs) zero le = absurd (omega arith)
over-behind zero (x ∷ xs) (b ∷ bs) (suc m) le = over-behind zero xs bs m (omega arith)
over-behind (suc o) d (b ∷ bs) zero le = absurd (omega arith)
over-behind (suc o) d (b ∷ bs) (suc m) le = over-behind o d bs m (omega arith)

-- bytes before the data
pub over-before : (o : ℕ) (d bs : List ℕ) (m n : ℕ) → m + n ≤ o → take n (drop m (over o d bs)) ≡ take n (drop m bs)
over-before o d [] m n le = refl
over-before o d (b ∷ bs) m zero le = refl
over-before zero d (b ∷ bs) m (suc n) le = absurd (omega arith)
over-before (suc o) d (b ∷ bs) zero (suc n) le = ap (◌∷◌ b) (over-before o d bs zero n (omega arith))
over-before (suc o) d (b ∷ bs) (suc m) (suc n) le = over-before o d bs m (suc n) (omega arith)

-- ---- two writes

pub over-over : (o : ℕ) (d : List ℕ) (p : ℕ) (e bs : List ℕ) → o + length d ≤ p
    → over o d (over p e bs) ≡ over p e (over o d bs)
over-over o d p e [] le = refl
over-over zero [] p e (b ∷ bs) le = over-nothing zero (over p e (b ∷ bs))
over-over zero (x ∷ xs) zero e (b ∷ bs) le = absurd (omega arith)
over-over zero (x ∷ xs) (suc p) e (b ∷ bs) le = ap (◌∷◌ x) (over-over zero xs p e bs (omega arith))
over-over (suc o) d zero e (b ∷ bs) le = absurd (omega arith)
over-over (suc o) d (suc p) e (b ∷ bs) le = ap (◌∷◌ b) (over-over o d p e bs (omega arith))

-- ---- a WRITE within the file

joined-over : (d bs : List ℕ) → length d ≤ length bs → d ++ drop (length d) bs ≡ over zero d bs
joined-over [] bs le = sym (over-nothing zero bs)
joined-over (x ∷ xs) [] le = absurd (omega arith)
joined-over (x ∷ xs) (b ∷ bs) le = ap (◌∷◌ x) (joined-over xs bs (omega arith))

none-of : (n : ℕ) → zero - n ≡ zero
none-of n = omega arith

plus-none : (n : ℕ) → zero + n ≡ n
plus-none n = omega arith

less-one : (o n : ℕ) → suc o - suc n ≡ o - n
less-one o n = omega arith

plus-one : (o n : ℕ) → suc o + n ≡ suc (o + n)
plus-one o n = omega arith

spliced-over : (o : ℕ) (d bs : List ℕ) → o + length d ≤ length bs
    → resized o bs ++ d ++ drop (o + length d) bs ≡ over o d bs
spliced-over zero d bs le =
    ap (λ n. (take zero bs ++ replicate n 0) ++ d ++ drop (zero + length d) bs) (none-of (length bs))
    ∙ (ap (λ n. d ++ drop n bs) (plus-none (length d)) ∙ joined-over d bs (omega arith))
spliced-over (suc o) d [] le = absurd (omega arith)
spliced-over (suc o) d (b ∷ bs) le =
    ap (λ n. (take (suc o) (b ∷ bs) ++ replicate n 0) ++ d ++ drop (suc o + length d) (b ∷ bs)) (less-one o (length bs))
    ∙ (ap (λ n. (take (suc o) (b ∷ bs) ++ replicate (o - length bs) 0) ++ d ++ drop n (b ∷ bs)) (plus-one o (length d))
    ∙ ap (◌∷◌ b) (spliced-over o d bs (omega arith)))

not-none : (n : ℕ) → suc n ≡ 0 → ⊥
not-none n is = absurd (omega arith)

is-some : (n : ℕ) → (suc n == 0) ≡ false
is-some n = ne_eqb (suc n) 0 (not-none n)

pub written-over : (o : ℕ) (d bs : List ℕ) → o + length d ≤ length bs → written o d bs ≡ over o d bs
written-over o [] bs le = sym (over-nothing o bs)
written-over o (x ∷ xs) bs le =
    ap (λ b. if b then bs else overwritten o (x ∷ xs) bs) (is-some (length xs)) ∙ spliced-over o (x ∷ xs) bs le

pub written-sized : (o : ℕ) (d bs : List ℕ) → o + length d ≤ length bs → length (written o d bs) ≡ length bs
written-sized o d bs le = ap (λ (x : List ℕ). length x) (written-over o d bs le) ∙ over-length o d bs

pub written-before : (o : ℕ) (d bs : List ℕ) (m n : ℕ) → o + length d ≤ length bs → m + n ≤ o
    → take n (drop m (written o d bs)) ≡ take n (drop m bs)
written-before o d bs m n le before =
    ap (λ (x : List ℕ). take n (drop m x)) (written-over o d bs le) ∙ over-before o d bs m n before

pub written-behind : (o : ℕ) (d bs : List ℕ) (m : ℕ) → o + length d ≤ length bs → o + length d ≤ m
    → drop m (written o d bs) ≡ drop m bs
written-behind o d bs m le behind =
    ap (λ (x : List ℕ). drop m x) (written-over o d bs le) ∙ over-behind o d bs m behind

pub written-twice : (o : ℕ) (d : List ℕ) (p : ℕ) (e bs : List ℕ) → o + length d ≤ p → p + length e ≤ length bs
    → written o d (written p e bs) ≡ written p e (written o d bs)
written-twice o d p e bs apart le =
    let first : o + length d ≤ length bs = omega arith in
    let sized = written-sized p e bs le in
    let sized_too = written-sized o d bs first in
    written-over o d (written p e bs) (omega (arith, sized))
    ∙ (ap (over o d) (written-over p e bs le)
    ∙ (over-over o d p e bs apart
    ∙ (ap (over p e) (sym (written-over o d bs first))
    ∙ sym (written-over p e (written o d bs) (omega (arith, sized_too))))))

-- ---- the range is the span within the file

module _ (s : State) (ask : Ask) (changes : Bool) (handle : List ℕ) where
  of-content : (number : ℕ) (flags : OpenFlags) (ends : Option (ℕ × ℕ)) → span (limits s.tree) ask flags ≡ ends
      → (found : Option Content) → content_at s.tree.files number ≡ found
      → range_of (limits s.tree) ask (seen_file number flags found) ≡ range_now s (Some number) ends
  of-content number flags ends is None there = rw there refl
  of-content number flags ends is (Some before) there = rw (there, is) refl

  of-file : (changes : Bool) (number : ℕ) (flags : OpenFlags)
      → range_of (limits s.tree) ask (seen_file number flags (content_at s.tree.files number))
      ≡ range_now s (file_in (touched_through a_file changes handle (Some (File number flags))))
      (span (limits s.tree) ask flags)
  of-file true number flags =
      of-content number flags (span (limits s.tree) ask flags) refl (content_at s.tree.files number) refl
  of-file false number flags =
      of-content number flags (span (limits s.tree) ask flags) refl (content_at s.tree.files number) refl

  of-open : (needed : Needed) (found : Option Open)
      → range_of (limits s.tree) ask (seen_among s.tree.files needed found)
      ≡ range_now s (file_in (touched_through needed changes handle found)) (span_open (limits s.tree) ask needed found)
  of-open anything None = refl
  of-open anything (Some it) = refl
  of-open a_file None = refl
  of-open a_file (Some (File number flags)) = of-file changes number flags
  of-open a_file (Some (Listing left)) = refl
  of-open a_listing None = refl
  of-open a_listing (Some (File number flags)) = refl
  of-open a_listing (Some (Listing left)) = refl

of-named : (s : State) (ask : Ask) (named : Option (List ℕ))
    → range_by s ask named ≡ range_now s (file_in (touched_by s ask named)) (span_by s ask named)
unfolding seen
of-named s ask None = refl
of-named s ask (Some handle) =
    of-open s ask (may_change ask) handle (row_of ask).needed (open_at s.handles handle)

pub range-is : (s : State) (ask : Ask) → range s ask ≡ range_now s (file_in (touched s ask)) (spanned s ask)
unfolding range touched spanned
range-is s ask = of-named s ask (asked_handle ask)

-- ---- what has a span

unspanned : (bounds : TreeLimits) (ask : Ask) (needed : Needed) (found : Option Open)
    → ((flags : OpenFlags) → span bounds ask flags ≡ None) → span_open bounds ask needed found ≡ None
unspanned bounds ask a_file (Some (File number flags)) none = none flags
unspanned bounds ask needed found none = refl

by-unspanned : (s : State) (ask : Ask) (named : Option (List ℕ))
    → ((flags : OpenFlags) → span (limits s.tree) ask flags ≡ None) → span_by s ask named ≡ None
by-unspanned s ask None none = refl
by-unspanned s ask (Some handle) none =
    unspanned (limits s.tree) ask (row_of ask).needed (open_at s.handles handle) none

-- only READ and WRITE have one
pub spanned-other : (s : State) (ask : Ask)
    → ((handle : List ℕ) (offset len : ℕ) → ask ≡ asks.Read handle offset len → ⊥)
    → ((handle : List ℕ) (offset : ℕ) (bytes : List ℕ) → ask ≡ asks.Write handle offset bytes → ⊥)
    → spanned s ask ≡ None
unfolding spanned
spanned-other s (asks.Read handle offset len) read write = absurd (read handle offset len refl)
spanned-other s (asks.Write handle offset bytes) read write = absurd (write handle offset bytes refl)
spanned-other s other read write = by-unspanned s other (asked_handle other) (λ flags. refl)

-- what has a span touches a file
abbrev pub HasFileFor : Touched → Option (ℕ × ℕ) → Type 0
HasFileFor at None = Unit {0}
HasFileFor at (Some ends) = (number : ℕ) × (file_in at ≡ Some number)

of-span : (changes : Bool) (handle : List ℕ) (number : ℕ) (flags : OpenFlags) (ends : Option (ℕ × ℕ))
    → HasFileFor (touched_through a_file changes handle (Some (File number flags))) ends
of-span changes handle number flags None = tt
of-span true handle number flags (Some ends) = (number, refl)
of-span false handle number flags (Some ends) = (number, refl)

of-opened : (bounds : TreeLimits) (ask : Ask) (changes : Bool) (handle : List ℕ) (needed : Needed) (found : Option Open)
    → HasFileFor (touched_through needed changes handle found) (span_open bounds ask needed found)
of-opened bounds ask changes handle a_file (Some (File number flags)) =
    of-span changes handle number flags (span bounds ask flags)
of-opened bounds ask changes handle needed found = tt

of-handle : (s : State) (ask : Ask) (named : Option (List ℕ)) → HasFileFor (touched_by s ask named) (span_by s ask named)
of-handle s ask None = tt
of-handle s ask (Some handle) =
    of-opened (limits s.tree) ask (may_change ask) handle (row_of ask).needed (open_at s.handles handle)

pub span-touches : (s : State) (ask : Ask) → HasFileFor (touched s ask) (spanned s ask)
unfolding touched spanned
span-touches s ask = of-handle s ask (asked_handle ask)

-- ---- spans stay

span-listing : (bounds : TreeLimits) (ask : Ask) (needed : Needed) (left before : Left)
    → span_open bounds ask needed (Some (Listing left)) ≡ span_open bounds ask needed (Some (Listing before))
span-listing bounds ask a_file left before = refl
span-listing bounds ask needed left before = refl

spanned-by : (s : State) (ask : Ask) (k : List ℕ) (at : Touched) (change : Change) (named : Option (List ℕ))
    → IsChangeTo s k at change → at ≢ everything → span_by (applied s k change) ask named ≡ span_by s ask named
spanned-by s ask k at change None is apart = refl
spanned-by s ask k at change (Some h) is apart =
    ap (λ bounds. span_open bounds ask (row_of ask).needed (open_at (applied s k change).handles h))
    (limits-stay s k at change is apart)
    ∙ part-stays (span_open (limits s.tree) ask (row_of ask).needed) (span-listing (limits s.tree) ask
    (row_of ask).needed) s h k at change is apart

pub spanned-stays : (s : State) (ask : Ask) (k : List ℕ) (at : Touched) (change : Change)
    → IsChangeTo s k at change → at ≢ everything → spanned (applied s k change) ask ≡ spanned s ask
unfolding spanned
spanned-stays s ask k at change is apart = spanned-by s ask k at change (asked_handle ask) is apart
