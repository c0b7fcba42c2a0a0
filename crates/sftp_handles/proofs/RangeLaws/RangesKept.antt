-- Which requests keep to the ranges that they kept to before a step.
use Rattle.sftp_handles.proofs.Imports.{◌≡◌, ◌≢◌, ◌||◌, nat_lt, ℕ, Bool, true, false, cond, List, [], ◌∷◌, length}
use Rattle.sftp_handles.proofs.Imports.{Option, Some, None, unwrap_or, refl, sym, ap, subst, ◌∙◌, ◌⊎◌, inl, inr}
use Rattle.sftp_handles.proofs.Imports.{nat_cmp, is_eq, is_at, lookup, filter, Equal-is, nat_cmp-IsAntisymmetric}
use Rattle.sftp_handles.proofs.Imports.{true≢false, or_right, lt-ltb, eq-eqb, same_Some, OpenFlags}
use Rattle.sftp_handles.proofs.Imports.{Ask, Answer, Request, Reply, asked_handle, bytes_cmp, same_bytes}
use Rattle.sftp_handles.proofs.Imports.{get, retain, count-found, TreeLimits, Content, Tree, Files}
use Rattle.sftp_handles.proofs.Imports.{content_at, with_content, limits, trim, is_named, is_pinned, ByteRange, Open}
use Rattle.sftp_handles.proofs.Imports.{File, Listing, Left, Handles, open_at, with_open, pins_of, times_open}
use Rattle.sftp_handles.proofs.Imports.{opens_file, State, settled, Needed, anything, a_file, a_listing, file}
use Rattle.sftp_handles.proofs.Imports.{seen_file, seen_among, seen, row_of, Change, nothing, rewrites, leaves, closes}
use Rattle.sftp_handles.proofs.Imports.{change_of, change_file, changed, after, after_by, Allowed, Touched, reads_file}
use Rattle.sftp_handles.proofs.Imports.{writes_file, everything, share, touched, may_change, touched_through}
use Rattle.sftp_handles.specs.Clash.{range_of, range_by, range, may_resize}
use Rattle.sftp_handles.proofs.ClashLaws.{applied, IsChangeTo, change-touches, share-mutual, seen-stays}
use Rattle.sftp_handles.proofs.ClashLaws.{part-taken, touched-is}
use Rattle.sftp_handles.proofs.ClashLaws.{handle-of, not-everything, limits-stay}
use Rattle.sftp_handles.proofs.Good.Pins.{pins-times}
use Rattle.sftp_handles.proofs.RangeLaws.{Ranged, ranged-of, ranged-sees}
use Rattle.sftp_handles.proofs.RangeLaws.{effect}
use Rattle.sftp_handles.proofs.RangeLaws.RangeExchanges.{on-file, effect-size}
use Rattle.sftp_handles.proofs.RangeLaws.SteadyRanges.{range-sized}

-- ---- a listing gives names

of-listing : (bounds : TreeLimits) (ask : Ask) (files : Files) (needed : Needed) (left before : Left)
    → range_of bounds ask (seen_among files needed (Some (Listing left)))
    ≡ range_of bounds ask (seen_among files needed (Some (Listing before)))
of-listing bounds ask files anything left before = refl
of-listing bounds ask files a_file left before = refl
of-listing bounds ask files a_listing left before = refl

module _ (s : State) (ask : Ask) (k : List ℕ) (left before : Left)
    (there : open_at s.handles k ≡ Some (Listing before)) where
  by-named : (named : Option (List ℕ))
      → range_by (applied s k (leaves left)) ask named ≡ range_by s ask named
  unfolding seen
  by-named None = refl
  by-named (Some h) =
      part-taken (λ found. range_of (limits s.tree) ask (seen_among s.tree.files (row_of ask).needed found))
      (of-listing (limits s.tree) ask s.tree.files (row_of ask).needed) s.handles h k before left (same_bytes h k) refl
      there

  range-left : range (applied s k (leaves left)) ask ≡ range s ask
  unfolding range
  range-left = by-named (asked_handle ask)

-- ---- files that are open are kept

by-held : (e : ℕ × Content) (rest left : Files) (n : ℕ) (b c : Bool) → is_eq (nat_cmp n e.0) ≡ c
    → (c ≡ true → b ≡ true) → lookup (is_at (nat_cmp n)) left ≡ lookup (is_at (nat_cmp n)) rest
    → lookup (is_at (nat_cmp n)) (cond b (e ∷ left) left) ≡ cond c (Some e.1) (lookup (is_at (nat_cmp n)) rest)
by-held e rest left n true c is keeps same = λ i. cond (is i) (Some e.1) (same i)
by-held e rest left n false true is keeps same = absurd (true≢false (sym (keeps refl)))
by-held e rest left n false false is keeps same = same

get-held : (es : Files) (keeps : ℕ × Content → Bool) (n : ℕ)
    → ((e : ℕ × Content) → is_eq (nat_cmp n e.0) ≡ true → keeps e ≡ true)
    → content_at (retain es keeps) n ≡ content_at es n
unfolding get retain
get-held [] keeps n held = refl
get-held (e ∷ es) keeps n held =
    by-held e es (filter keeps es) n (keeps e) (is_eq (nat_cmp n e.0)) refl (held e) (get-held es keeps n held)
    ∙ refl

held-open : (t : Tree) (handles : Handles) (h : List ℕ) (m : ℕ) (flags : OpenFlags)
    → open_at handles h ≡ Some (File m flags)
    → content_at (trim (record t { pins = pins_of handles })).files m ≡ content_at t.files m
held-open t handles h m flags there =
    get-held t.files (λ e. is_named t.names e.0 || is_pinned (pins_of handles) e.0) m
    (λ e is.
    or_right (is_named t.names e.0) (is_pinned (pins_of handles) e.0)
    (ap (is_pinned (pins_of handles)) (sym (nat_cmp-IsAntisymmetric m e.0 ((Equal-is (nat_cmp m e.0)).0 is)))
    ∙ (ap (nat_lt 0) (pins-times handles m)
    ∙ lt-ltb 0 (times_open handles m)
    (count-found bytes_cmp handles h (File m flags) (opens_file m) there (eq-eqb m m refl)))))

module _ (t : Tree) (handles : Handles) (ask : Ask) where
  settled-open : (h : List ℕ) (needed : Needed) (found : Option Open) → open_at handles h ≡ found
      → range_of (limits t) ask (seen_among (settled t handles).tree.files needed found)
      ≡ range_of (limits t) ask (seen_among t.files needed found)
  settled-open h needed None there = refl
  settled-open h anything (Some it) there = refl
  settled-open h a_file (Some (File m flags)) there =
      ap (λ found. range_of (limits t) ask (seen_file m flags found)) (held-open t handles h m flags there)
  settled-open h a_file (Some (Listing left)) there = refl
  settled-open h a_listing (Some (File m flags)) there = refl
  settled-open h a_listing (Some (Listing left)) there = refl

  settled-named : (named : Option (List ℕ))
      → range_by (settled t handles) ask named ≡ range_by (record { tree = t; handles = handles }) ask named
  unfolding seen
  settled-named None = refl
  settled-named (Some h) = settled-open h (row_of ask).needed (open_at handles h) refl

  settled-range : range (settled t handles) ask ≡ range (record { tree = t; handles = handles }) ask
  unfolding range
  settled-range = settled-named (asked_handle ask)

changed-range : (s : State) (k : List ℕ) (change : Change) (ask : Ask)
    → range (changed s k change) ask ≡ range (applied s k change) ask
changed-range s k nothing ask = settled-range s.tree s.handles ask
changed-range s k (rewrites number next) ask =
    settled-range (record s.tree { files = with_content s.tree.files number next }) s.handles ask
changed-range s k (leaves left) ask = settled-range s.tree (with_open s.handles k (Listing left)) ask
changed-range s k closes ask = refl

-- ---- a step

-- the change that a request through a handle makes if it is done
abbrev change_in : State → Ask → List ℕ → Answer → Change
change_in s ask k answer = change_of (row_of ask) (seen s (row_of ask).needed k) answer

done-range : (s : State) (asked ask : Ask) (answer : Answer) (k : List ℕ) → asked_handle asked ≡ Some k
    → range (after s asked answer) ask ≡ range (applied s k (change_in s asked k answer)) ask
unfolding after
done-range s asked ask answer k named =
    ap (λ (found : Option (List ℕ)). range (after_by s asked answer found) ask) named
    ∙ changed-range s k (change_in s asked k answer) ask

-- what a request writes that keeps to a range has the length of what was there
rewritten-by : (asked : Ask) (number n : ℕ) (flags : OpenFlags) (before next : Content) (found : Option Content)
    → (row_of asked).content flags before ≡ found → change_file number found ≡ rewrites n next
    → length (effect true asked flags before).bytes ≡ length before.bytes
    → (number ≡ n) × (length next.bytes ≡ length before.bytes)
rewritten-by asked number n flags before next None is change sized = absurd cc
rewritten-by asked number n flags before next (Some content) is change sized =
    let same : number ≡ n = cc in
    let one : content ≡ next = cc in
    (same, ap (λ (c : Content). length c.bytes) (sym one) ∙ (ap (λ found. length (unwrap_or found before).bytes) (sym is) ∙ sized))

of-rewrite : (s : State) (asked ask : Ask) (answer : Answer) (k : List ℕ) (n : ℕ) (next : Content) (at : ByteRange)
    → asked_handle asked ≡ Some k → (r : Ranged s asked at) → change_in s asked k answer ≡ rewrites n next
    → range (applied s k (rewrites n next)) ask ≡ range s ask
of-rewrite s asked ask answer k n next at named r change =
    let same : r.handle ≡ k = same_Some r.handle k (sym r.asked ∙ named) in
    let sees : seen s (row_of asked).needed k ≡ file at.number r.flags r.before =
    ap (seen s (row_of asked).needed) (sym same) ∙ ranged-sees s asked at r in
    let made : change_file at.number ((row_of asked).content r.flags r.before) ≡ rewrites n next =
    ap (λ it. change_of (row_of asked) it answer) (sym sees) ∙ change in
    let sized : length (effect true asked r.flags r.before).bytes ≡ length r.before.bytes =
    effect-size (on-file r) true in
    let both = rewritten-by asked at.number n r.flags r.before next ((row_of asked).content r.flags r.before) refl made
    sized in
    range-sized s ask n r.before next (ap (content_at s.tree.files) (sym both.0) ∙ r.there) both.1

by-change : (s : State) (asked ask : Ask) (answer : Answer) (k : List ℕ) (change : Change) (found : Option ByteRange)
    → asked_handle asked ≡ Some k → change_in s asked k answer ≡ change → IsChangeTo s k (touched s asked) change
    → touched s asked ≢ everything → range s asked ≡ found → may_resize (touched s asked) found ≡ false
    → range (applied s k change) ask ≡ range s ask
by-change s asked ask answer k nothing found named made is part at within = refl
by-change s asked ask answer k (rewrites n next) None named made is part at within =
    absurd (true≢false (sym (ap (λ (t : Touched). may_resize t None) is) ∙ within))
by-change s asked ask answer k (rewrites n next) (Some found) named made is part at within =
    of-rewrite s asked ask answer k n next found named (ranged-of s asked found at) made
by-change s asked ask answer k (leaves left) found named made is part at within =
    range-left s ask k left is.1.0 is.1.1
by-change s asked ask answer k closes found named made is part at within = absurd (part is)

pub ranges-kept : (s end : State) (request : Request) (reply : Reply) (ask : Ask)
    → touched s request.ask ≢ everything → may_resize (touched s request.ask) (range s request.ask) ≡ false
    → Allowed s request reply end → range end ask ≡ range s ask
ranges-kept s end request reply ask part within allowed = elim allowed.step [
  | inl refused ↦ ap (λ (e : State). range e ask) refused.unchanged
  | inr does ↦
      let named = handle-of s request.ask part in
      ap (λ (e : State). range e ask) does.changed
      ∙ (done-range s request.ask ask reply.answer named.0 named.1
      ∙ by-change s request.ask ask reply.answer named.0 (change_in s request.ask named.0 reply.answer)
      (range s request.ask) named.1 refl (change-touches s request.ask named.0 reply.answer named.1) part refl within)
]

-- ---- a request that shares nothing with the one that was done

module _ (s : State) (ask : Ask) (k : List ℕ) (at : Touched) (change : Change) (is : IsChangeTo s k at change)
    (part : at ≢ everything) (apart : share (touched s ask) at ≡ false) where
  other-by : (named : Option (List ℕ)) → asked_handle ask ≡ named
      → range_by (applied s k change) ask named ≡ range_by s ask named
  other-by None asked = refl
  other-by (Some h) asked = λ i.
      range_of (limits-stay s k at change is part i) ask (seen-stays s ask h k at change asked is apart i)

  other-past : range (applied s k change) ask ≡ range s ask
  unfolding range
  other-past = other-by (asked_handle ask) refl

pub other-ranges : (s end : State) (request : Request) (reply : Reply) (ask : Ask)
    → share (touched s request.ask) (touched s ask) ≡ false → Allowed s request reply end
    → range end ask ≡ range s ask
other-ranges s end request reply ask apart allowed = elim allowed.step [
  | inl refused ↦ ap (λ (e : State). range e ask) refused.unchanged
  | inr does ↦
      let part = not-everything (touched s request.ask) (touched s ask) apart in
      let named = handle-of s request.ask part in
      ap (λ (e : State). range e ask) does.changed
      ∙ (done-range s request.ask ask reply.answer named.0 named.1
      ∙ other-past s ask named.0 (touched s request.ask) (change_in s request.ask named.0 reply.answer)
      (change-touches s request.ask named.0 reply.answer named.1) part
      (share-mutual (touched s ask) (touched s request.ask) ∙ apart))
]

-- ---- what is touched where a range is kept to

touches-by : (changes : Bool) (handle : List ℕ) (number : ℕ) (flags : OpenFlags)
    → (touched_through a_file changes handle (Some (File number flags)) ≡ reads_file number)
    ⊎ (touched_through a_file changes handle (Some (File number flags)) ≡ writes_file number)
touches-by true handle number flags = inr refl
touches-by false handle number flags = inl refl

pub range-touches : (s : State) (ask : Ask) (at : ByteRange) → range s ask ≡ Some at
    → (touched s ask ≡ reads_file at.number) ⊎ (touched s ask ≡ writes_file at.number)
range-touches s ask at is =
    let r = ranged-of s ask at is in
    let there : touched s ask
    ≡ touched_through a_file (may_change ask) r.handle (Some (File at.number r.flags)) =
    touched-is s ask r.handle r.asked
    ∙ (λ i. touched_through (r.needed i) (may_change ask) r.handle (r.opened i)) in
    subst
    (λ (t : Touched). (t ≡ reads_file at.number) ⊎ (t ≡ writes_file at.number)) (sym there)
    (touches-by (may_change ask) r.handle at.number r.flags)
