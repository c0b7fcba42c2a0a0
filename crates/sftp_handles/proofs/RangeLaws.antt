-- Requests on ranges of files that do not conflict.
use Rattle.sftp_handles.proofs.Imports.{◌≡◌, nat_le, ℕ, ◌≤◌, Bool, true, false, List, length, Option, Some, None, Ok}
use Rattle.sftp_handles.proofs.Imports.{Err, option_map, refl, sym, ap, subst, ◌∙◌, le-leb, leb-true, same_Some}
use Rattle.sftp_handles.proofs.Imports.{OpenFlags, Ask, asked_handle, TreeLimits, Cause, Content, content_at, limits}
use Rattle.sftp_handles.proofs.Imports.{ByteRange, Open, File, Listing, open_at, State, Needed, anything, a_file}
use Rattle.sftp_handles.proofs.Imports.{a_listing, Seen, file, seen_file, seen_among, seen, goes_to_end, row_of}
use Rattle.sftp_handles.proofs.Imports.{found_file, ◌&&◌, not, nat_lt, ◌+◌, min, if◌then◌else◌, [], take, drop, cond}
use Rattle.sftp_handles.proofs.Imports.{unwrap_or, arith, nat_cmp, is_eq, IsTotalOrder, nat_cmp_total, Equal-is}
use Rattle.sftp_handles.proofs.Imports.{IsAntisymmetric, nat_cmp-IsAntisymmetric, Ordering, Answer, Table, InOrder}
use Rattle.sftp_handles.proofs.Imports.{get, put, get-put, InOrder-put, same_table, IsAsk, content_fits, with_content}
use Rattle.sftp_handles.proofs.Imports.{written_content, is_none, when, Good, NoRoom, refuses, says, start_of}
use Rattle.sftp_handles.proofs.Imports.{causes_of, said_of, read_from, change_file, step}
use Rattle.sftp_packets.specs.declared.requests.Ask.TheVariants as asks
use Rattle.sftp_handles.specs.Clash.{written_span, span, range_from, range_if, range_within, range_of, range_by}
use Rattle.sftp_handles.specs.Clash.{range}
use Rattle.sftp_handles.specs.Replies.{gives, ended, ok}
use Rattle.sftp_handles.specs.RequestRows.{has_file_room}
use Rattle.sftp_handles.proofs.Imports.{◌-◌, Files, Tree, get-put_here}
use Rattle.sftp_tree.specs.Tree.{total_of}
use Rattle.sftp_tree.specs.Changes.{length_of}
use Rattle.sftp_tree.proofs.Totals.{total-put, part-of_total}
use Rattle.sftp_handles.proofs.ClashLaws.{applied}
use Rattle.sftp_handles.proofs.ClashLaws.{decided, outcome, step-applied}
use Rattle.sftp_handles.proofs.RangeLaws.Spans.{over, over-length, over-nothing, written-over}
pub mod RangeExchanges
pub mod SteadyRanges
pub mod RangesKept
pub mod Spans

-- ==== What a request sees that keeps to a range of a file, and when it keeps to one.

-- ---- what is seen

-- a request that keeps to this range: what is open under its handle, and the content of the file
pub record Ranged (s : State) (ask : Ask) (at : ByteRange) : Type 0 where
  pub handle : List ℕ
  pub flags : OpenFlags
  pub before : Content
  pub asked : asked_handle ask ≡ Some handle
  pub needed : (row_of ask).needed ≡ a_file
  pub opened : open_at s.handles handle ≡ Some (File at.number flags)
  pub there : content_at s.tree.files at.number ≡ Some before
  pub spanned : span (limits s.tree) ask flags ≡ Some (at.start, at.end)
  pub within : at.end ≤ length before.bytes

module _ (s : State) (ask : Ask) (at : ByteRange) (handle : List ℕ) (asked : asked_handle ask ≡ Some handle) where
  module _ (number : ℕ) (flags : OpenFlags) (before : Content) (needed : (row_of ask).needed ≡ a_file)
      (opened : open_at s.handles handle ≡ Some (File number flags))
      (there : content_at s.tree.files number ≡ Some before) where
    from-ends : (ends : ℕ × ℕ) (fits : Bool) → span (limits s.tree) ask flags ≡ Some ends
        → nat_le ends.1 (length before.bytes) ≡ fits → range_if fits number ends ≡ Some at → Ranged s ask at
    from-ends ends true spanned fits is =
        subst (Ranged s ask) (same_Some (range_from number ends) at is)
        (record {
          handle = handle;
          flags = flags;
          before = before;
          asked = asked;
          needed = needed;
          opened = opened;
          there = there;
          spanned = spanned;
          within = leb-true ends.1 (length before.bytes) fits;
        })
    from-ends ends false spanned fits is = absurd cc

    from-span : (found : Option (ℕ × ℕ)) → span (limits s.tree) ask flags ≡ found
        → range_within number (length before.bytes) found ≡ Some at → Ranged s ask at
    from-span None spanned is = absurd cc
    from-span (Some ends) spanned is = from-ends ends (nat_le ends.1 (length before.bytes)) spanned refl is

  from-file : (number : ℕ) (flags : OpenFlags) (found : Option Content) → (row_of ask).needed ≡ a_file
      → open_at s.handles handle ≡ Some (File number flags) → content_at s.tree.files number ≡ found
      → range_of (limits s.tree) ask (seen_file number flags found) ≡ Some at → Ranged s ask at
  from-file number flags None needed opened there is = absurd cc
  from-file number flags (Some before) needed opened there is =
      from-span number flags before needed opened there (span (limits s.tree) ask flags) refl is

  from-open : (needed : Needed) (found : Option Open) → (row_of ask).needed ≡ needed
      → open_at s.handles handle ≡ found → range_of (limits s.tree) ask (seen_among s.tree.files needed found) ≡ Some at
      → Ranged s ask at
  from-open needed None kind opened is = absurd cc
  from-open anything (Some it) kind opened is = absurd cc
  from-open a_file (Some (File number flags)) kind opened is =
      from-file number flags (content_at s.tree.files number) kind opened refl is
  from-open a_file (Some (Listing left)) kind opened is = absurd cc
  from-open a_listing (Some (File number flags)) kind opened is = absurd cc
  from-open a_listing (Some (Listing left)) kind opened is = absurd cc

  from-handle : range_of (limits s.tree) ask (seen s (row_of ask).needed handle) ≡ Some at → Ranged s ask at
  unfolding seen
  from-handle is = from-open (row_of ask).needed (open_at s.handles handle) refl refl is

from-named : (s : State) (ask : Ask) (at : ByteRange) (named : Option (List ℕ)) → asked_handle ask ≡ named
    → range_by s ask named ≡ Some at → Ranged s ask at
from-named s ask at None asked is = absurd cc
from-named s ask at (Some handle) asked is = from-handle s ask at handle asked is

pub ranged-of : (s : State) (ask : Ask) (at : ByteRange) → range s ask ≡ Some at → Ranged s ask at
unfolding range
ranged-of s ask at is = from-named s ask at (asked_handle ask) refl is

-- the file as the request sees it
pub ranged-sees : (s : State) (ask : Ask) (at : ByteRange) → (r : Ranged s ask at)
    → seen s (row_of ask).needed r.handle ≡ file at.number r.flags r.before
unfolding seen
ranged-sees s ask at r =
    (λ i. seen_among s.tree.files (r.needed i) (r.opened i)) ∙ ap (seen_file at.number r.flags) r.there

pub ranged-is : (s : State) (ask : Ask) (at : ByteRange) → Ranged s ask at → range s ask ≡ Some at
unfolding range
ranged-is s ask at r =
    ap (range_by s ask) r.asked
    ∙ (ap (range_of (limits s.tree) ask) (ranged-sees s ask at r)
    ∙ (ap (range_within at.number (length r.before.bytes)) r.spanned
    ∙ ap (λ b. range_if b at.number (at.start, at.end)) (le-leb at.end (length r.before.bytes) r.within)))

-- ==== Requests that keep to ranges of one file that do not meet: the steps of each change no byte of the other's
-- range, and leave the file its length. So they may change places.

-- ---- entries put twice

module _ {K X : Type 0} (cmp : K → K → Ordering) (total : IsTotalOrder cmp) (same : IsAntisymmetric cmp) where
  again-by : (es : Table K X) (key at : K) (x : X) (b : Bool) → is_eq (cmp at key) ≡ b → get cmp es key ≡ Some x
      → cond b (Some x) (get cmp es at) ≡ get cmp es at
  again-by es key at x true is there = sym (ap (get cmp es) (same at key ((Equal-is (cmp at key)).0 is)) ∙ there)
  again-by es key at x false is there = refl

  -- what a key has may be put there again
  put-same : (es : Table K X) (key : K) (x : X) → InOrder cmp es → get cmp es key ≡ Some x → put cmp es key x ≡ es
  put-same es key x order there =
      same_table cmp total same (put cmp es key x) es (InOrder-put cmp total es key x order) order
      (λ at. get-put cmp total es key x at ∙ again-by es key at x (is_eq (cmp at key)) refl there)

  twice-by : (es : Table K X) (at : K) (x y : X) (b : Bool)
      → cond b (Some y) (cond b (Some x) (get cmp es at)) ≡ cond b (Some y) (get cmp es at)
  twice-by es at x y true = refl
  twice-by es at x y false = refl

  -- of two things put at one key, the second stays
  put-twice : (es : Table K X) (key : K) (x y : X) → InOrder cmp es
      → put cmp (put cmp es key x) key y ≡ put cmp es key y
  put-twice es key x y order =
      same_table cmp total same (put cmp (put cmp es key x) key y) (put cmp es key y)
      (InOrder-put cmp total (put cmp es key x) key y (InOrder-put cmp total es key x order))
      (InOrder-put cmp total es key y order)
      (λ at.
      get-put cmp total (put cmp es key x) key y at
      ∙ (ap (cond (is_eq (cmp at key)) (Some y)) (get-put cmp total es key x at)
      ∙ (twice-by es at x y (is_eq (cmp at key)) ∙ sym (get-put cmp total es key y at))))

-- the state in which the file of a number has this content
abbrev pub with_file : State → ℕ → Content → State
with_file s number next = record s { tree = record s.tree { files = with_content s.tree.files number next } }

file-same : (s : State) (number : ℕ) (before : Content) → InOrder nat_cmp s.tree.files
    → content_at s.tree.files number ≡ Some before → with_file s number before ≡ s
file-same s number before order there =
    ap (λ files. record s { tree = record s.tree { files = files } })
    (put-same nat_cmp nat_cmp_total nat_cmp-IsAntisymmetric s.tree.files number before order there)

pub file-twice : (s : State) (number : ℕ) (x y : Content) → InOrder nat_cmp s.tree.files
    → with_file (with_file s number x) number y ≡ with_file s number y
file-twice s number x y order =
    ap (λ files. record s { tree = record s.tree { files = files } })
    (put-twice nat_cmp nat_cmp_total nat_cmp-IsAntisymmetric s.tree.files number x y order)

-- ---- a step of a request on a file

-- whether the answer says that the request was done or refused, if it may say so
abbrev pub verdict : Bool → Bool → Option Bool
verdict true answered = Some false
verdict false true = Some true
verdict false false = None

abbrev pub judged : Tree → Ask → ℕ → OpenFlags → Content → Answer → Option Bool
judged t ask number flags before answer =
    verdict (refuses (causes_of t (row_of ask) (file number flags before)) answer)
    (is_none (causes_of t (row_of ask) (file number flags before))
    && says (said_of (limits t) (row_of ask) (file number flags before)) answer)

-- the content of the file after the request, by whether it was done
abbrev pub effect : Bool → Ask → OpenFlags → Content → Content
effect true ask flags before = unwrap_or ((row_of ask).content flags before) before
effect false ask flags before = before

module _ (s : State) (ask : Ask) (handle : List ℕ) (number : ℕ) (flags : OpenFlags) (before : Content)
    (answer : Answer) (order : InOrder nat_cmp s.tree.files) (there : content_at s.tree.files number ≡ Some before)
  where
    changed-file : (next : Option Content)
        → applied s handle (change_file number next) ≡ with_file s number (unwrap_or next before)
    changed-file None = sym (file-same s number before order there)
    changed-file (Some next) = refl

    step-by : (refused answered : Bool)
        → option_map (applied s handle)
        (decided refused answered (change_file number ((row_of ask).content flags before)))
        ≡ option_map (λ done. with_file s number (effect done ask flags before)) (verdict refused answered)
    unfolding decided
    step-by true answered = ap Some (sym (file-same s number before order there))
    step-by false true = ap Some (changed-file ((row_of ask).content flags before))
    step-by false false = refl

    pub file-step : asked_handle ask ≡ Some handle → Good s → IsAsk ask
        → seen s (row_of ask).needed handle ≡ file number flags before
        → step s ask answer
        ≡ option_map (λ done. with_file s number (effect done ask flags before))
        (judged s.tree ask number flags before answer)
    file-step asked good fit sees =
        step-applied s ask handle answer asked good fit
        ∙ (ap (λ it. option_map (applied s handle) (outcome s.tree (row_of ask) it answer)) sees
        ∙ step-by (refuses (causes_of s.tree (row_of ask) (file number flags before)) answer)
        (is_none (causes_of s.tree (row_of ask) (file number flags before))
        && says (said_of (limits s.tree) (row_of ask) (file number flags before)) answer))

-- ---- a request that keeps to a range of the file

-- the bytes that the request writes, by whether it was done
abbrev pub data_of : Bool → Ask → List ℕ
data_of true (asks.Write handle offset bytes) = bytes
data_of done other = []

-- the content with these bytes
abbrev pub with_bytes : Content → List ℕ → Content
with_bytes before bytes = record before { bytes = bytes }

written-ends : (b : Bool) (offset count : ℕ) (ends : ℕ × ℕ) → written_span b offset count ≡ Some ends
    → (b ≡ false) × (ends ≡ (offset, offset + count))
written-ends true offset count ends is = absurd cc
written-ends false offset count ends is = (refl, sym (same_Some (offset, offset + count) ends is))

-- where a WRITE starts that does not go to the end
starts-there : (flags : OpenFlags) (offset : ℕ) (before : Content) → goes_to_end flags ≡ false
    → start_of flags offset before ≡ offset
starts-there flags offset before is = ap (λ b. if b then length before.bytes else offset) is

module _ (bounds : TreeLimits) (flags : OpenFlags) (before : Content) (ends : ℕ × ℕ)
    (within : ends.1 ≤ length before.bytes) where
  -- what it writes is within its range
  pub data-within : (done : Bool) (ask : Ask) → span bounds ask flags ≡ Some ends
      → ends.0 + length (data_of done ask) ≤ ends.1
  data-within true (asks.Write handle offset bytes) is =
      let e = (written-ends (goes_to_end flags) offset (length bytes) ends is).1 in
      subst (λ (p : ℕ × ℕ). p.0 + length bytes ≤ p.1) (sym e) (omega arith)
  data-within false (asks.Write handle offset bytes) is =
      let e = (written-ends (goes_to_end flags) offset (length bytes) ends is).1 in
      subst (λ (p : ℕ × ℕ). p.0 + length {A = ℕ} [] ≤ p.1) (sym e) (omega arith)
  data-within true (asks.Read handle offset len) is =
      subst (λ (p : ℕ × ℕ). p.0 + length {A = ℕ} [] ≤ p.1) (same_Some (offset, offset + min len bounds.read_bytes) ends is)
      (omega arith)
  data-within false (asks.Read handle offset len) is =
      subst (λ (p : ℕ × ℕ). p.0 + length {A = ℕ} [] ≤ p.1) (same_Some (offset, offset + min len bounds.read_bytes) ends is)
      (omega arith)
  data-within done other is = absurd cc

  written-there : (offset : ℕ) (bytes : List ℕ) → written_span (goes_to_end flags) offset (length bytes) ≡ Some ends
      → written_content (start_of flags offset before) bytes before
      ≡ with_bytes before (over ends.0 bytes before.bytes)
  written-there offset bytes is =
      let e = written-ends (goes_to_end flags) offset (length bytes) ends is in
      let fits : offset + length bytes ≤ length before.bytes =
      subst (λ (p : ℕ × ℕ). p.1 ≤ length before.bytes) e.1 within in
      ap (λ start. written_content start bytes before) (starts-there flags offset before e.0)
      ∙ (ap (with_bytes before) (written-over offset bytes before.bytes fits)
      ∙ ap (λ (p : ℕ × ℕ). with_bytes before (over p.0 bytes before.bytes)) (sym e.1))

  unchanged : before ≡ with_bytes before (over ends.0 [] before.bytes)
  unchanged = ap (with_bytes before) (sym (over-nothing ends.0 before.bytes))

  -- the content after it
  pub effect-over : (done : Bool) (ask : Ask) → span bounds ask flags ≡ Some ends
      → effect done ask flags before ≡ with_bytes before (over ends.0 (data_of done ask) before.bytes)
  effect-over true (asks.Write handle offset bytes) is = written-there offset bytes is
  effect-over false (asks.Write handle offset bytes) is = unchanged
  effect-over true (asks.Read handle offset len) is = unchanged
  effect-over false (asks.Read handle offset len) is = unchanged
  effect-over done other is = absurd cc

-- of two contents: the same length, and the same bytes from the start on, up to the end
pub record AreAlike (ends : ℕ × ℕ) (before after : Content) : Type 0 where
  pub sized : length after.bytes ≡ length before.bytes
  pub bytes : (count : ℕ) → ends.0 + count ≤ ends.1
      → take count (drop ends.0 after.bytes) ≡ take count (drop ends.0 before.bytes)

-- the bytes of all other files stay when a file gets another content
others-stay : (files : Files) (number : ℕ) (next : Content) → InOrder nat_cmp files
    → total_of (with_content files number next) - length_of (content_at (with_content files number next) number)
    ≡ total_of files - length_of (content_at files number)
others-stay files number next order =
    omega (
      arith,
      total-put files number next order,
      ap length_of (get-put_here nat_cmp nat_cmp_total files number next),
      part-of_total files number,
    )

-- a request is judged alike on contents that are alike in its range
module _ (t : Tree) (order : InOrder nat_cmp t.files) (number : ℕ) (flags : OpenFlags) (before after : Content)
    (ends : ℕ × ℕ) (within : ends.1 ≤ length before.bytes) (alike : AreAlike ends before after) (answer : Answer) where
  abbrev bounds : TreeLimits
  bounds = limits t

  -- the tree with the second content
  abbrev other : Tree
  other = record t { files = with_content t.files number after }

  read-alike : (offset len : ℕ) → (offset, offset + min len bounds.read_bytes) ≡ ends
      → read_from bounds offset len after ≡ read_from bounds offset len before
  read-alike offset len is =
      let bytes : take (min len bounds.read_bytes) (drop offset after.bytes)
      ≡ take (min len bounds.read_bytes) (drop offset before.bytes) =
      subst
      (λ (p : ℕ × ℕ).
      take (min len bounds.read_bytes) (drop p.0 after.bytes) ≡ take (min len bounds.read_bytes) (drop p.0 before.bytes))
      (sym is)
      (alike.bytes (min len bounds.read_bytes)
      (subst (λ (p : ℕ × ℕ). p.0 + min len bounds.read_bytes ≤ p.1) is (omega arith))) in
      λ i. if nat_lt offset (alike.sized i) then gives (bytes i) else ended

  written-size : (offset : ℕ) (bytes : List ℕ) (content : Content) → ends.1 ≤ length content.bytes
      → written_span (goes_to_end flags) offset (length bytes) ≡ Some ends
      → length (written_content (start_of flags offset content) bytes content).bytes ≡ length content.bytes
  written-size offset bytes content fits is =
      ap (λ (c : Content). length c.bytes) (written-there bounds flags content ends fits offset bytes is)
      ∙ over-length ends.0 bytes content.bytes

  written-alike : (offset : ℕ) (bytes : List ℕ) → written_span (goes_to_end flags) offset (length bytes) ≡ Some ends
      → has_file_room other number (written_content (start_of flags offset after) bytes after)
      ≡ has_file_room t number (written_content (start_of flags offset before) bytes before)
  written-alike offset bytes is =
      let count = written-size offset bytes after (subst (λ n. ends.1 ≤ n) (sym alike.sized) within) is
      ∙ (alike.sized ∙ sym (written-size offset bytes before within is)) in
      λ i.
      nat_le (count i) bounds.file_bytes
      && nat_le (others-stay t.files number after order i + count i) bounds.total_bytes

  pub judged-alike : (ask : Ask) → span bounds ask flags ≡ Some ends
      → judged other ask number flags after answer ≡ judged t ask number flags before answer
  judged-alike (asks.Read handle offset len) is =
      ap
      (λ said.
      verdict (refuses (causes_of t (row_of (asks.Read handle offset len)) (file number flags before)) answer)
      (is_none (causes_of t (row_of (asks.Read handle offset len)) (file number flags before)) && says said answer))
      (read-alike offset len (same_Some (offset, offset + min len bounds.read_bytes) ends is))
  judged-alike (asks.Write handle offset bytes) is =
      ap
      (λ fits.
      let set = when ((row_of (asks.Write handle offset bytes)).refused flags) NoRoom
      (is_none ((row_of (asks.Write handle offset bytes)).refused flags) && not fits) in
      verdict (refuses set answer) (is_none set && says ok answer))
      (written-alike offset bytes is)
  judged-alike ask is = absurd cc
