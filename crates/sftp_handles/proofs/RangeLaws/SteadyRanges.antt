-- A step leaves the ranges of the requests that do not clash with its own, and so no clash of ranges arises.
use Rattle.sftp_handles.proofs.Imports.{◌≡◌, ◌≢◌, ◌==◌, ◌&&◌, not, nat_lt, ℕ, Bool, true, false, List, length, Option}
use Rattle.sftp_handles.proofs.Imports.{Some, None, cond, refl, sym, ap, ◌∙◌, inl, inr, ◌⊎◌, nat_cmp, is_eq}
use Rattle.sftp_handles.proofs.Imports.{nat_cmp_total, nat_eq_equiv, Equal-is, bytes_decides, nat_cmp-IsAntisymmetric}
use Rattle.sftp_handles.proofs.Imports.{eqb-true, eqb-false, and_parts, and_right, not-true, not_from_true, same_Some}
use Rattle.sftp_handles.proofs.Imports.{OpenFlags, Ask, Request, Reply, asked_handle, same_bytes, get-put, IsAsk}
use Rattle.sftp_handles.proofs.Imports.{Content, Files, content_at, with_content, limits, ByteRange, Open, File}
use Rattle.sftp_handles.proofs.Imports.{Listing, Left, open_at, State, Good, Needed, anything, a_file, a_listing}
use Rattle.sftp_handles.proofs.Imports.{seen_file, seen_among, seen, row_of, Change, nothing, rewrites, leaves, closes}
use Rattle.sftp_handles.proofs.Imports.{Allowed, Touched, writes_file, everything, share, may_change, touched_through}
use Rattle.sftp_handles.proofs.Imports.{touched_by, touched, clash, ComesFirst}
use Rattle.sftp_handles.specs.Clash.{span, range_within, range_of, range_by, range, meet, are_apart, range_clash}
use Rattle.sftp_handles.proofs.ClashLaws.{applied, IsChangeTo, share-mutual, content-stays, open-stays}
use Rattle.sftp_handles.proofs.ClashLaws.{touched-is}
use Rattle.sftp_handles.proofs.ClashLaws.{StaysGood, exchanged, changes-of, handle-of, not-everything}
use Rattle.sftp_handles.proofs.ClashLaws.{touched-past, or-none, clash-none, room-mutual, room-past}
use Rattle.sftp_handles.proofs.Imports.{◌||◌}
use Rattle.sftp_handles.specs.Clash.{room_clash}
use Rattle.sftp_handles.proofs.Judged.{allowed-step}
use Rattle.sftp_handles.proofs.RangeLaws.{Ranged, ranged-of, ranged-is}
use Rattle.sftp_handles.proofs.RangeLaws.{with_file, effect}
use Rattle.sftp_handles.proofs.RangeLaws.RangeExchanges.{apart-of, on-file, on-same, did, effect-size}
use Rattle.sftp_handles.proofs.RangeLaws.RangeExchanges.{exchanged-apart}

-- ---- ranges that are compared

-- two requests whose ranges are compared, on one file
pub record AreRanged (s : State) (ask other : Ask) : Type 0 where
  pub at : ByteRange
  pub other_at : ByteRange
  pub ranged : Ranged s ask at
  pub other_ranged : Ranged s other other_at
  pub same : at.number ≡ other_at.number
  pub apart : meet at other_at ≡ false

by-ranges : (s : State) (ask other : Ask) (a b : Option ByteRange) → range s ask ≡ a → range s other ≡ b
    → are_apart a b ≡ true → AreRanged s ask other
by-ranges s ask other None b is_a is_b apart = absurd cc
by-ranges s ask other (Some a) None is_a is_b apart = absurd cc
by-ranges s ask other (Some a) (Some b) is_a is_b apart =
    let parts = and_parts (a.number == b.number) (not (meet a b)) apart in
    record {
      at = a;
      other_at = b;
      ranged = ranged-of s ask a is_a;
      other_ranged = ranged-of s other b is_b;
      same = eqb-true a.number b.number parts.0;
      apart = not-true (meet a b) parts.1;
    }

are-ranged : (s : State) (ask other : Ask) → are_apart (range s ask) (range s other) ≡ true → AreRanged s ask other
are-ranged s ask other apart = by-ranges s ask other (range s ask) (range s other) refl refl apart

by-tests : (c a : Bool) → (c && not a) ≡ false → (c ≡ false) ⊎ (a ≡ true)
by-tests false a is = inl refl
by-tests true true is = inr refl
by-tests true false is = absurd cc

-- two requests whose ranges do not clash share no room, and nothing else either, or their ranges are apart
pub clash-parts : (s : State) (request other : Request) → range_clash s request other ≡ false
    → (room_clash (limits s.tree) (touched s request.ask) (touched s other.ask) ≡ false)
    × ((share (touched s request.ask) (touched s other.ask) ≡ false)
    ⊎ (are_apart (range s request.ask) (range s other.ask) ≡ true))
unfolding range_clash
clash-parts s request other free =
    let none = or-none (room_clash (limits s.tree) (touched s request.ask) (touched s other.ask)) _ free in (
      none.0,
      by-tests (share (touched s request.ask) (touched s other.ask))
          (are_apart (range s request.ask) (range s other.ask)) none.1,
    )

-- ---- the exchange

exchange-apart : (stays-good : StaysGood) (s mid end : State) (request other : Request) (reply next : Reply) → Good s
    → IsAsk request.ask → IsAsk other.ask → AreRanged s request.ask other.ask → Allowed s other next mid
    → Allowed mid request reply end → ComesFirst s request other reply next end
exchange-apart stays-good s mid end request other reply next good fit fit_other two first second =
    exchanged-apart stays-good good fit fit_other (on-file two.ranged)
    (on-same (sym two.same) two.ranged.there (on-file two.other_ranged)) (apart-of two.at two.other_at two.apart) first
    second

pub ranges-exchanged : (stays-good : StaysGood) (s mid end : State) (request other : Request) (reply next : Reply)
    → Good s → IsAsk request.ask → IsAsk other.ask → range_clash s request other ≡ false → Allowed s other next mid
    → Allowed mid request reply end → ComesFirst s request other reply next end
ranges-exchanged stays-good s mid end request other reply next good fit fit_other free first second =
    let parts = clash-parts s request other free in
    elim parts.1 [
      | inl apart ↦
          exchanged stays-good s mid end request other reply next good fit fit_other parts.0 apart first second
      | inr apart ↦
          exchange-apart stays-good s mid end request other reply next good fit fit_other
          (are-ranged s request.ask other.ask apart) first second
    ]

-- ---- a file that keeps its length

sized-by : (bounds : _) (ask : Ask) (files : Files) (m n : ℕ) (flags : OpenFlags) (before next : Content) (b : Bool)
    → is_eq (nat_cmp m n) ≡ b → content_at files n ≡ Some before → length next.bytes ≡ length before.bytes
    → range_of bounds ask (seen_file m flags (cond b (Some next) (content_at files m)))
    ≡ range_of bounds ask (seen_file m flags (content_at files m))
sized-by bounds ask files m n flags before next true is there sized =
    let same : m ≡ n = nat_cmp-IsAntisymmetric m n ((Equal-is (nat_cmp m n)).0 is) in
    ap (λ size. range_within m size (span bounds ask flags)) sized
    ∙ ap (λ found. range_of bounds ask (seen_file m flags found)) (sym (ap (content_at files) same ∙ there))
sized-by bounds ask files m n flags before next false is there sized = refl

module _ (s : State) (ask : Ask) (number : ℕ) (before next : Content)
    (there : content_at s.tree.files number ≡ Some before) (sized : length next.bytes ≡ length before.bytes) where
  sized-open : (needed : Needed) (found : Option Open)
      → range_of (limits s.tree) ask (seen_among (with_content s.tree.files number next) needed found)
      ≡ range_of (limits s.tree) ask (seen_among s.tree.files needed found)
  sized-open needed None = refl
  sized-open anything (Some it) = refl
  sized-open a_file (Some (File m flags)) =
      ap (λ found. range_of (limits s.tree) ask (seen_file m flags found))
      (get-put nat_cmp nat_cmp_total s.tree.files number next m)
      ∙ sized-by (limits s.tree) ask s.tree.files m number flags before next (is_eq (nat_cmp m number)) refl there sized
  sized-open a_file (Some (Listing left)) = refl
  sized-open a_listing (Some (File m flags)) = refl
  sized-open a_listing (Some (Listing left)) = refl

  sized-named : (named : Option (List ℕ)) → range_by (with_file s number next) ask named ≡ range_by s ask named
  unfolding seen
  sized-named None = refl
  sized-named (Some handle) = sized-open (row_of ask).needed (open_at s.handles handle)

  pub range-sized : range (with_file s number next) ask ≡ range s ask
  unfolding range
  range-sized = sized-named (asked_handle ask)

  touched-named : (named : Option (List ℕ)) → touched_by (with_file s number next) ask named ≡ touched_by s ask named
  touched-named None = refl
  touched-named (Some handle) = refl

  touched-sized : touched (with_file s number next) ask ≡ touched s ask
  unfolding touched
  touched-sized = touched-named (asked_handle ask)

-- ---- a change of another file, or of a listing

-- the number of its file is that of a request's range
shares-number : (changes : Bool) (handle : List ℕ) (m n : ℕ) (flags : OpenFlags)
    → share (touched_through a_file changes handle (Some (File m flags))) (writes_file n) ≡ (m == n)
shares-number true handle m n flags = refl
shares-number false handle m n flags = refl

ranged-shares : (s : State) (ask : Ask) (at : ByteRange) (n : ℕ) → Ranged s ask at
    → share (touched s ask) (writes_file n) ≡ (at.number == n)
ranged-shares s ask at n r =
    ap (λ x. share x (writes_file n)) (touched-is s ask r.handle r.asked)
    ∙ ((λ i. share (touched_through (r.needed i) (may_change ask) r.handle (r.opened i)) (writes_file n))
    ∙ shares-number (may_change ask) r.handle at.number n r.flags)

-- a file is no listing
not-listing : (s : State) (h k : List ℕ) (number : ℕ) (flags : OpenFlags) (it : Open) (b : Bool)
    → same_bytes h k ≡ b → open_at s.handles h ≡ Some (File number flags) → open_at s.handles k ≡ Some it
    → (it ≡ File number flags → ⊥) → same_bytes h k ≡ false
not-listing s h k number flags it true same opened there other =
    absurd (other (same_Some it (File number flags) (sym there ∙ (ap (open_at s.handles) (sym ((bytes_decides h k).0 same)) ∙ opened))))
not-listing s h k number flags it false same opened there other = same

listing-is_no_file : (left : Left) (number : ℕ) (flags : OpenFlags) → Listing left ≡ File number flags → ⊥
listing-is_no_file left number flags is = cc

-- a request keeps its range where its file is not rewritten
range-past : (s : State) (ask : Ask) (at : ByteRange) (k : List ℕ) (what : Touched) (change : Change)
    → IsChangeTo s k what change → what ≢ everything → ((n : ℕ) → what ≡ writes_file n → at.number ≢ n)
    → Ranged s ask at → Ranged (applied s k change) ask at
range-past s ask at k what nothing is part other r = r
range-past s ask at k what (rewrites n next) is part other r = record {
  handle = r.handle;
  flags = r.flags;
  before = r.before;
  asked = r.asked;
  needed = r.needed;
  opened = r.opened;
  there = content-stays s.tree.files at.number n next (other n is) ∙ r.there;
  spanned = r.spanned;
  within = r.within;
}
range-past s ask at k what (leaves left) is part other r = record {
  handle = r.handle;
  flags = r.flags;
  before = r.before;
  asked = r.asked;
  needed = r.needed;
  opened =
      open-stays s.handles r.handle k (Listing left)
      (not-listing s r.handle k at.number r.flags (Listing is.1.0) (same_bytes r.handle k) refl r.opened is.1.1
      (listing-is_no_file is.1.0 at.number r.flags))
      ∙ r.opened;
  there = r.there;
  spanned = r.spanned;
  within = r.within;
}
range-past s ask at k what closes is part other r = absurd (part is)

-- ---- no clash of ranges arises

module _ (s end : State) (request earlier later : Request) (reply : Reply) (good : Good s) (fit : IsAsk request.ask)
    (allowed : Allowed s request reply end) where
  -- a step of a request that does not clash with the later one
  module _ (free : share (touched s request.ask) (touched s later.ask) ≡ false) where
    part : touched s request.ask ≢ everything
    part = not-everything (touched s request.ask) (touched s later.ask) free

    -- the file of the later request's range is not rewritten
    other-file : (at : ByteRange) → Ranged s later.ask at → (n : ℕ) → touched s request.ask ≡ writes_file n
        → at.number ≢ n
    other-file at r n is =
        eqb-false at.number n
        (sym (ranged-shares s later.ask at n r)
        ∙ (ap (share (touched s later.ask)) (sym is)
        ∙ (share-mutual (touched s later.ask) (touched s request.ask) ∙ free)))

    keeps-range : (ask : Ask) (at : ByteRange) → Ranged s ask at
        → ((n : ℕ) → touched s request.ask ≡ writes_file n → at.number ≢ n) → range end ask ≡ range s ask
    keeps-range ask at r other =
        let named = handle-of s request.ask part in
        let one = changes-of s end request.ask named.0 reply.answer named.1 good fit
        (allowed-step s request reply end allowed) in
        ap (λ (e : State). range e ask) one.end_is
        ∙ (ranged-is (applied s named.0 one.change) ask at
        (range-past s ask at named.0 (touched s request.ask) one.change one.touches part other r)
        ∙ sym (ranged-is s ask at r))

    apart-past : AreRanged s earlier.ask later.ask
        → are_apart (range end earlier.ask) (range end later.ask) ≡ are_apart (range s earlier.ask) (range s later.ask)
    apart-past two =
        let other = other-file two.other_at two.other_ranged in
        let first = keeps-range earlier.ask two.at two.ranged (λ n is same. other n is (sym two.same ∙ same)) in
        let second = keeps-range later.ask two.other_at two.other_ranged other in
        λ i. are_apart (first i) (second i)

    shared-past : share (touched end earlier.ask) (touched end later.ask)
        ≡ share (touched s earlier.ask) (touched s later.ask)
    shared-past = λ i.
        share (touched-past s end request reply earlier.ask good fit part allowed i)
        (touched-past s end request reply later.ask good fit part allowed i)

    ranged-past : (share (touched s earlier.ask) (touched s later.ask) ≡ false)
        ⊎ (are_apart (range s earlier.ask) (range s later.ask) ≡ true)
        → (share (touched end earlier.ask) (touched end later.ask)
        && not (are_apart (range end earlier.ask) (range end later.ask))) ≡ false
    ranged-past (inl apart) =
        ap (λ b. b && not (are_apart (range end earlier.ask) (range end later.ask))) (shared-past ∙ apart)
    ranged-past (inr apart) =
        and_right (share (touched end earlier.ask) (touched end later.ask))
        (not (are_apart (range end earlier.ask) (range end later.ask)))
        (not_from_true (are_apart (range end earlier.ask) (range end later.ask))
        (apart-past (are-ranged s earlier.ask later.ask apart) ∙ apart))

    past-free : range_clash s earlier later ≡ false → range_clash end earlier later ≡ false
    unfolding range_clash
    past-free none =
        let parts = clash-parts s earlier later none in
        let room = room-past s end request reply earlier.ask later.ask good fit part allowed ∙ parts.0 in
        λ i. room i || ranged-past parts.1 i

  -- a step of a request whose range is apart from the later one's
  module _ (two : AreRanged s request.ask later.ask) where
    abbrev its-range : Ranged s request.ask two.at
    its-range = two.ranged

    sized-free : range_clash end earlier later ≡ range_clash s earlier later
    unfolding range_clash
    sized-free =
        let at = on-file its-range in
        let one = did good fit allowed at in
        let next = effect one.done request.ask its-range.flags its-range.before in
        let sized : length next.bytes ≡ length its-range.before.bytes = effect-size at one.done in
        ap (λ (e : State). range_clash e earlier later) one.end_is
        ∙ (λ i.
        let first = touched-sized s earlier.ask two.at.number its-range.before next its-range.there sized i in
        let second = touched-sized s later.ask two.at.number its-range.before next its-range.there sized i in
        room_clash (limits s.tree) first second
        || (share first second && not
        (are_apart (range-sized s earlier.ask two.at.number its-range.before next its-range.there sized i)
        (range-sized s later.ask two.at.number its-range.before next its-range.there sized i))))

  pub still-free : range_clash s request later ≡ false → range_clash s earlier later ≡ false
      → range_clash end earlier later ≡ false
  still-free free none = elim (clash-parts s request later free).1 [
    | inl apart ↦ past-free apart none
    | inr apart ↦ sized-free (are-ranged s request.ask later.ask apart) ∙ none
  ]

-- ---- which comes first does not matter

swap : (w x y z : Bool) → ((w && x) && (y && z)) ≡ ((x && w) && (z && y))
swap true true true true = refl
swap true true true false = refl
swap true true false true = refl
swap true true false false = refl
swap true false y z = refl
swap false true y z = refl
swap false false y z = refl

apart-mutual : (a b : Option ByteRange) → are_apart a b ≡ are_apart b a
apart-mutual None None = refl
apart-mutual None (Some b) = refl
apart-mutual (Some a) None = refl
apart-mutual (Some a) (Some b) =
    λ i.
    nat_eq_equiv.symm a.number b.number i
    && not
    (swap (nat_lt a.start a.end) (nat_lt b.start b.end) (nat_lt a.start b.end) (nat_lt b.start a.end) i)

pub range_clash-mutual : (s : State) (request other : Request) → range_clash s request other ≡ range_clash s other request
unfolding range_clash
range_clash-mutual s request other =
    λ i.
    room-mutual (limits s.tree) (touched s request.ask) (touched s other.ask) i
    || (share-mutual (touched s request.ask) (touched s other.ask) i
    && not (apart-mutual (range s request.ask) (range s other.ask) i))

-- what does not clash does not clash by ranges either
pub range_clash-less : (s : State) (request other : Request) → clash s request other ≡ false
    → range_clash s request other ≡ false
unfolding range_clash
range_clash-less s request other free =
    let none = clash-none s request other free in
    λ i. none.0 i || (none.1 i && not (are_apart (range s request.ask) (range s other.ask)))
