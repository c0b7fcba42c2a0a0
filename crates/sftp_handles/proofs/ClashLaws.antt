-- Requests that do not conflict.
use Rattle.sftp_handles.proofs.Imports.{◌≡◌, ◌≢◌, ◌==◌, ℕ, Bool, true, false, List, Option, Some, None, cond, refl}
use Rattle.sftp_handles.proofs.Imports.{sym, ap, subst, ◌∙◌, nat_cmp, is_eq, IsTotalOrder, nat_cmp_total}
use Rattle.sftp_handles.proofs.Imports.{nat_eq_equiv, Equal-is, Ordering, Equal, nat_list_cmp_total}
use Rattle.sftp_handles.proofs.Imports.{nat_list_eq_equiv, bytes_decides, IsAntisymmetric, nat_cmp-IsAntisymmetric}
use Rattle.sftp_handles.proofs.Imports.{eq-eqb, OpenFlags, Ask, Answer, asked_handle, bytes_cmp, same_bytes, Table}
use Rattle.sftp_handles.proofs.Imports.{InOrder, get, put, bytes_cmp-same, get-put, get-put_here, InOrder-put}
use Rattle.sftp_handles.proofs.Imports.{same_table, Content, Files, content_at, with_content, Open, File, Listing}
use Rattle.sftp_handles.proofs.Imports.{Left, Handles, open_at, with_open, State, Needed, anything, a_file, a_listing}
use Rattle.sftp_handles.proofs.Imports.{seen_file, seen_among, seen, row_of, Change, nothing, rewrites, leaves}
use Rattle.sftp_handles.proofs.Imports.{closes, change_of, change_file, changed, Touched, untouched, reads_file}
use Rattle.sftp_handles.proofs.Imports.{writes_file, takes_names, everything, share, may_change, touched_through}
use Rattle.sftp_handles.proofs.Imports.{touched_by, touched, bars, bars_by, is_barrier, ◌&&◌, same_Some, Request}
use Rattle.sftp_handles.proofs.Imports.{Reply, TreeLimits, IsAsk, IsContent, content_fits, limits, is_none, each-get}
use Rattle.sftp_handles.proofs.Imports.{Good, Seen, refuses, says, struck, names_given, Row, causes_of, said_of}
use Rattle.sftp_handles.proofs.Imports.{with_file_room, causes, causes_by, answers, said_to, after, after_by, Allowed}
use Rattle.sftp_handles.proofs.Imports.{stepped, step, ComesFirst}
use Rattle.sftp_packets.specs.declared.requests.Ask.TheVariants as asks
use Rattle.sftp_path.proofs.Table.Laws.{get-put_elsewhere}
use Rattle.std.specs.Option.{option_map}
use Rattle.sftp_tree.proofs.KeptTrees.{kept-content-within}
use Rattle.sftp_handles.proofs.Imports.{◌||◌, not, when, NoRoom}
use Rattle.sftp_treefile.specs.TreeFile.{are_far}
use Rattle.sftp_treefile.specs.TreeFileParts.{AreRaised}
use Rattle.sftp_treefile.proofs.Texts.{not_far}
use Rattle.sftp_tree.specs.Tree.{Tree}
use Rattle.sftp_handles.specs.RequestRows.{has_file_room}
use Rattle.sftp_handles.specs.Clash.{clash, share_room, room_clash}
use Rattle.sftp_handles.proofs.Good.{good-settled, content-room, room-near}
use Rattle.sftp_handles.proofs.Good.{next-content, room-left}
use Rattle.sftp_handles.proofs.Good.Pins.{settled-already}
use Rattle.sftp_handles.proofs.Good.Pins.{pins-listing_again}
use Rattle.sftp_handles.proofs.Judged.{allowed-step, step-is_allowed}

-- ==== What a request changes of what it touches, and that this is all that another request sees of it.

-- ---- what is changed

-- the state in which only that is changed
abbrev pub applied : State → List ℕ → Change → State
applied s handle nothing = s
applied s handle (rewrites number next) =
    record s { tree = record s.tree { files = with_content s.tree.files number next } }
applied s handle (leaves left) = record s { handles = with_open s.handles handle (Listing left) }
applied s handle closes = changed s handle closes

-- a change through a handle of what is touched
abbrev pub IsChangeTo : State → List ℕ → Touched → Change → Type 0
IsChangeTo s handle at nothing = Unit {0}
IsChangeTo s handle at (rewrites number next) = at ≡ writes_file number
IsChangeTo s handle at (leaves left) =
    (at ≡ takes_names handle) × ((before : Left) × (open_at s.handles handle ≡ Some (Listing before)))
IsChangeTo s handle at closes = at ≡ everything

-- only a request that may change its file gives it another content
may-change : (ask : Ask) (flags : OpenFlags) (before next : Content) → (row_of ask).content flags before ≡ Some next
    → may_change ask ≡ true
may-change (asks.Write handle offset bytes) flags before next is = refl
may-change (asks.Fsetstat handle attrs) flags before next is = refl
may-change other flags before next is = absurd cc

module _ (s : State) (ask : Ask) (handle : List ℕ) (answer : Answer) where
  of-content : (number : ℕ) (flags : OpenFlags) (before : Content) (next : Option Content)
      → (row_of ask).content flags before ≡ next
      → IsChangeTo s handle (touched_through a_file (may_change ask) handle (Some (File number flags)))
      (change_file number next)
  of-content number flags before None is = tt
  of-content number flags before (Some next) is =
      ap (λ b. touched_through a_file b handle (Some (File number flags))) (may-change ask flags before next is)

  of-number : (number : ℕ) (flags : OpenFlags) (found : Option Content)
      → IsChangeTo s handle (touched_through a_file (may_change ask) handle (Some (File number flags)))
      (change_of (row_of ask) (seen_file number flags found) answer)
  of-number number flags None = tt
  of-number number flags (Some before) = of-content number flags before ((row_of ask).content flags before) refl

  of-open : (needed : Needed) (found : Option Open) → open_at s.handles handle ≡ found
      → IsChangeTo s handle (touched_through needed (may_change ask) handle found)
      (change_of (row_of ask) (seen_among s.tree.files needed found) answer)
  of-open needed None there = tt
  of-open anything (Some it) there = refl
  of-open a_file (Some (File number flags)) there = of-number number flags (content_at s.tree.files number)
  of-open a_file (Some (Listing left)) there = tt
  of-open a_listing (Some (File number flags)) there = tt
  of-open a_listing (Some (Listing left)) there = (refl, (left, there))

  pub change-touches : asked_handle ask ≡ Some handle
      → IsChangeTo s handle (touched s ask) (change_of (row_of ask) (seen s (row_of ask).needed handle) answer)
  unfolding touched seen
  change-touches asked =
      subst (λ at. IsChangeTo s handle at (change_of (row_of ask) (seen_among s.tree.files (row_of ask).needed (open_at s.handles handle)) answer))
      (ap (touched_by s ask) (sym asked))
      (of-open (row_of ask).needed (open_at s.handles handle) refl)

-- ---- what is shared

pub share-everything : (at : Touched) → share at everything ≡ true
share-everything untouched = refl
share-everything other = refl

pub share-mutual : (at other : Touched) → share at other ≡ share other at
share-mutual (reads_file m) (writes_file n) = nat_eq_equiv.symm m n
share-mutual (writes_file m) (reads_file n) = nat_eq_equiv.symm m n
share-mutual (writes_file m) (writes_file n) = nat_eq_equiv.symm m n
share-mutual (takes_names h) (takes_names k) = nat_list_eq_equiv.symm h k
share-mutual untouched everything = refl
share-mutual everything untouched = refl
share-mutual at other = refl

-- nor does it matter for room which comes first
pub room-mutual : (bounds : TreeLimits) (at other : Touched) → room_clash bounds at other ≡ room_clash bounds other at
room-mutual bounds at other = ap (λ b. are_far bounds && b) (by at other)
  where
    by : (at other : Touched) → share_room at other ≡ share_room other at
    by (writes_file m) (writes_file n) = ap not (nat_eq_equiv.symm m n)
    by at (writes_file n) = refl
    by at other = refl

pub or-none : (a b : Bool) → (a || b) ≡ false → (a ≡ false) × (b ≡ false)
or-none true b is = absurd cc
or-none false b is = (refl, is)

-- what does not conflict shares neither room nor anything else
pub clash-none : (s : State) (request other : Request) → clash s request other ≡ false
    → (room_clash (limits s.tree) (touched s request.ask) (touched s other.ask) ≡ false)
    × (share (touched s request.ask) (touched s other.ask) ≡ false)
unfolding clash
clash-none s request other free =
    or-none (room_clash (limits s.tree) (touched s request.ask) (touched s other.ask))
    (share (touched s request.ask) (touched s other.ask)) free

pub clash-from : (s : State) (request other : Request) → share (touched s request.ask) (touched s other.ask) ≡ true
    → clash s request other ≡ true
unfolding clash
clash-from s request other shared =
    ap (λ b. room_clash (limits s.tree) (touched s request.ask) (touched s other.ask) || b) shared
    ∙ by (room_clash (limits s.tree) (touched s request.ask) (touched s other.ask))
  where
    by : (b : Bool) → (b || true) ≡ true
    by true = refl
    by false = refl

pub clash-mutual : (s : State) (request other : Request) → clash s request other ≡ clash s other request
unfolding clash
clash-mutual s request other = λ i.
    room-mutual (limits s.tree) (touched s request.ask) (touched s other.ask) i
    || share-mutual (touched s request.ask) (touched s other.ask) i

-- the numbers or handles of what is not shared differ
other-number : (m n : ℕ) → (m == n) ≡ false → m ≢ n
other-number m n apart same = absurd (let hit = eq-eqb m n same in cc)

other-handle : (h k : List ℕ) → same_bytes h k ≡ false → bytes_cmp h k ≢ Equal
other-handle h k apart tie =
    absurd (let hit = (bytes_decides h k).1 (bytes_cmp-same h k tie) in cc)

-- ---- what another request sees

pub content-stays : (files : Files) (m n : ℕ) (next : Content) → m ≢ n
    → content_at (with_content files n next) m ≡ content_at files m
content-stays files m n next apart =
    get-put_elsewhere nat_cmp nat_cmp_total files n m next
    (λ tie. apart (nat_cmp-IsAntisymmetric m n tie))

pub open-stays : (handles : Handles) (h k : List ℕ) (it : Open) → same_bytes h k ≡ false
    → open_at (with_open handles k it) h ≡ open_at handles h
open-stays handles h k it apart =
    get-put_elsewhere bytes_cmp nat_list_cmp_total handles k h it (other-handle h k apart)

-- a file of another number, or a listing
file-apart : (changes : Bool) (h : List ℕ) (m n : ℕ) (flags : OpenFlags)
    → share (touched_through a_file changes h (Some (File m flags))) (writes_file n) ≡ false → m ≢ n
file-apart true h m n flags apart = other-number m n apart
file-apart false h m n flags apart = other-number m n apart

among-other_content : (files : Files) (n : ℕ) (next : Content) (changes : Bool) (h : List ℕ) (needed : Needed)
    (found : Option Open) → share (touched_through needed changes h found) (writes_file n) ≡ false
    → seen_among (with_content files n next) needed found ≡ seen_among files needed found
among-other_content files n next changes h needed None apart = refl
among-other_content files n next changes h anything (Some it) apart = refl
among-other_content files n next changes h a_file (Some (File m flags)) apart =
    ap (seen_file m flags) (content-stays files m n next (file-apart changes h m n flags apart))
among-other_content files n next changes h a_file (Some (Listing left)) apart = refl
among-other_content files n next changes h a_listing (Some (File m flags)) apart = refl
among-other_content files n next changes h a_listing (Some (Listing left)) apart = refl

-- through the same handle only a request on a listing sees which names it has left
among-other_listing : (files : Files) (changes : Bool) (h k : List ℕ) (before left : Left) (needed : Needed)
    → same_bytes h k ≡ true
    → share (touched_through needed changes h (Some (Listing before))) (takes_names k) ≡ false
    → seen_among files needed (Some (Listing left)) ≡ seen_among files needed (Some (Listing before))
among-other_listing files changes h k before left anything same apart = refl
among-other_listing files changes h k before left a_file same apart = refl
among-other_listing files changes h k before left a_listing same apart = absurd cc

seen-taken : (s : State) (needed : Needed) (changes : Bool) (h k : List ℕ) (before left : Left) (b : Bool)
    → same_bytes h k ≡ b → open_at s.handles k ≡ Some (Listing before)
    → share (touched_through needed changes h (open_at s.handles h)) (takes_names k) ≡ false
    → seen_among s.tree.files needed (open_at (with_open s.handles k (Listing left)) h)
    ≡ seen_among s.tree.files needed (open_at s.handles h)
seen-taken s needed changes h k before left true same there apart =
    let e : h ≡ k = (bytes_decides h k).0 same in
    let at : open_at s.handles h ≡ Some (Listing before) = ap (open_at s.handles) e ∙ there in
    let now : open_at (with_open s.handles k (Listing left)) h ≡ Some (Listing left) =
    ap (open_at (with_open s.handles k (Listing left))) e
    ∙ get-put_here bytes_cmp nat_list_cmp_total s.handles k (Listing left) in
    ap (seen_among s.tree.files needed) now
    ∙ (among-other_listing s.tree.files changes h k before left needed same
    (ap (λ o. share (touched_through needed changes h o) (takes_names k)) (sym at) ∙ apart)
    ∙ ap (seen_among s.tree.files needed) (sym at))
seen-taken s needed changes h k before left false same there apart =
    ap (seen_among s.tree.files needed) (open-stays s.handles h k (Listing left) same)

seen-by : (s : State) (needed : Needed) (changes : Bool) (h k : List ℕ) (at : Touched) (change : Change)
    → IsChangeTo s k at change
    → share (touched_through needed changes h (open_at s.handles h)) at ≡ false
    → seen (applied s k change) needed h ≡ seen s needed h
unfolding seen
seen-by s needed changes h k at nothing is apart = refl
seen-by s needed changes h k at (rewrites n next) is apart =
    among-other_content s.tree.files n next changes h needed (open_at s.handles h)
    (ap (share (touched_through needed changes h (open_at s.handles h))) (sym is) ∙ apart)
seen-by s needed changes h k at (leaves left) is apart =
    seen-taken s needed changes h k is.1.0 left (same_bytes h k) refl is.1.1
    (ap (share (touched_through needed changes h (open_at s.handles h))) (sym is.0) ∙ apart)
seen-by s needed changes h k at closes is apart =
    absurd (let shared = ap (share (touched_through needed changes h (open_at s.handles h))) is
    ∙ share-everything (touched_through needed changes h (open_at s.handles h)) in cc)

pub touched-is : (s : State) (ask : Ask) (handle : List ℕ) → asked_handle ask ≡ Some handle
    → touched s ask ≡ touched_through (row_of ask).needed (may_change ask) handle (open_at s.handles handle)
unfolding touched
touched-is s ask handle asked = ap (touched_by s ask) asked

pub touched-unnamed : (s : State) (ask : Ask) → asked_handle ask ≡ None → touched s ask ≡ everything
unfolding touched
touched-unnamed s ask none = ap (touched_by s ask) none

-- a change of what a request does not share is not seen by it
pub seen-stays : (s : State) (ask : Ask) (h k : List ℕ) (at : Touched) (change : Change)
    → asked_handle ask ≡ Some h → IsChangeTo s k at change → share (touched s ask) at ≡ false
    → seen (applied s k change) (row_of ask).needed h ≡ seen s (row_of ask).needed h
seen-stays s ask h k at change asked is apart =
    seen-by s (row_of ask).needed (may_change ask) h k at change is
    (ap (λ x. share x at) (sym (touched-is s ask h asked)) ∙ apart)

-- ---- what requests touch

-- a part of what is open that is the same of all listings stays, unless everything is touched
module _ {X : Type 0} (part : Option Open → X)
    (alike : (left before : Left) → part (Some (Listing left)) ≡ part (Some (Listing before))) where
  pub part-taken : (handles : Handles) (h k : List ℕ) (before left : Left) (b : Bool) → same_bytes h k ≡ b
      → open_at handles k ≡ Some (Listing before)
      → part (open_at (with_open handles k (Listing left)) h) ≡ part (open_at handles h)
  part-taken handles h k before left true same there =
      let e : h ≡ k = (bytes_decides h k).0 same in
      ap part (ap (open_at (with_open handles k (Listing left))) e
      ∙ get-put_here bytes_cmp nat_list_cmp_total handles k (Listing left))
      ∙ (alike left before ∙ ap part (sym (ap (open_at handles) e ∙ there)))
  part-taken handles h k before left false same there = ap part (open-stays handles h k (Listing left) same)

  pub part-stays : (s : State) (h k : List ℕ) (at : Touched) (change : Change) → IsChangeTo s k at change
      → at ≢ everything → part (open_at (applied s k change).handles h) ≡ part (open_at s.handles h)
  part-stays s h k at nothing is apart = refl
  part-stays s h k at (rewrites n next) is apart = refl
  part-stays s h k at (leaves left) is apart = part-taken s.handles h k is.1.0 left (same_bytes h k) refl is.1.1
  part-stays s h k at closes is apart = absurd (apart is)

-- a listing that gave names is still a listing
through-listing : (needed : Needed) (changes : Bool) (h : List ℕ) (left before : Left)
    → touched_through needed changes h (Some (Listing left)) ≡ touched_through needed changes h (Some (Listing before))
through-listing anything changes h left before = refl
through-listing a_file changes h left before = refl
through-listing a_listing changes h left before = refl

touched-by : (s : State) (ask : Ask) (k : List ℕ) (at : Touched) (change : Change) (named : Option (List ℕ))
    → IsChangeTo s k at change → at ≢ everything → touched_by (applied s k change) ask named ≡ touched_by s ask named
touched-by s ask k at change None is apart = refl
touched-by s ask k at change (Some h) is apart =
    part-stays (touched_through (row_of ask).needed (may_change ask) h) (through-listing (row_of ask).needed
    (may_change ask) h) s h k at change is apart

pub touched-stays : (s : State) (ask : Ask) (k : List ℕ) (at : Touched) (change : Change)
    → IsChangeTo s k at change → at ≢ everything → touched (applied s k change) ask ≡ touched s ask
unfolding touched
touched-stays s ask k at change is apart = touched-by s ask k at change (asked_handle ask) is apart

-- ---- both changes

module _ {K X : Type 0} (cmp : K → K → Ordering) (total : IsTotalOrder cmp) (same : IsAntisymmetric cmp) where
  put-by : (es : Table K X) (a b at : K) (x y : X) (p q : Bool) → is_eq (cmp at a) ≡ p → is_eq (cmp at b) ≡ q
      → (at ≡ a → at ≡ b → ⊥)
      → cond q (Some y) (cond p (Some x) (get cmp es at)) ≡ cond p (Some x) (cond q (Some y) (get cmp es at))
  put-by es a b at x y true true is_a is_b apart =
      absurd (apart (same at a ((Equal-is (cmp at a)).0 is_a)) (same at b ((Equal-is (cmp at b)).0 is_b)))
  put-by es a b at x y true false is_a is_b apart = refl
  put-by es a b at x y false true is_a is_b apart = refl
  put-by es a b at x y false false is_a is_b apart = refl

  -- entries of two keys may be put in any order
  put-put : (es : Table K X) (a b : K) (x y : X) → InOrder cmp es → a ≢ b
      → put cmp (put cmp es a x) b y ≡ put cmp (put cmp es b y) a x
  put-put es a b x y order apart =
      same_table cmp total same (put cmp (put cmp es a x) b y) (put cmp (put cmp es b y) a x)
      (InOrder-put cmp total (put cmp es a x) b y (InOrder-put cmp total es a x order))
      (InOrder-put cmp total (put cmp es b y) a x (InOrder-put cmp total es b y order))
      (λ at.
      get-put cmp total (put cmp es a x) b y at
      ∙ (ap (cond (is_eq (cmp at b)) (Some y)) (get-put cmp total es a x at)
      ∙ (put-by es a b at x y (is_eq (cmp at a)) (is_eq (cmp at b)) refl refl
      (λ is_a is_b. apart (sym is_a ∙ is_b))
      ∙ (ap (cond (is_eq (cmp at a)) (Some x)) (sym (get-put cmp total es b y at))
      ∙ sym (get-put cmp total (put cmp es b y) a x at)))))

numbers-apart : (at other : Touched) (m n : ℕ) → at ≡ writes_file m → other ≡ writes_file n
    → share at other ≡ false → m ≢ n
numbers-apart at other m n is_m is_n apart =
    other-number m n ((λ i. share (sym is_m i) (sym is_n i)) ∙ apart)

handles-apart : (at other : Touched) (h k : List ℕ) → at ≡ takes_names h → other ≡ takes_names k
    → share at other ≡ false → h ≢ k
handles-apart at other h k is_h is_k apart same =
    absurd (let hit = (bytes_decides h k).1 same in
    let none : same_bytes h k ≡ false = (λ i. share (sym is_h i) (sym is_k i)) ∙ apart in cc)

-- changes of what is not shared may change places
pub applied-apart : (s : State) (h k : List ℕ) (at other : Touched) (change next : Change)
    → InOrder nat_cmp s.tree.files → InOrder bytes_cmp s.handles
    → IsChangeTo s h at change → IsChangeTo s k other next → share at other ≡ false
    → applied (applied s h change) k next ≡ applied (applied s k next) h change
applied-apart s h k at other nothing next files handles is is_next apart = refl
applied-apart s h k at other (rewrites m x) nothing files handles is is_next apart = refl
applied-apart s h k at other (rewrites m x) (rewrites n y) files handles is is_next apart =
    ap (λ (fs : Files). record s { tree = record s.tree { files = fs } })
    (put-put nat_cmp nat_cmp_total nat_cmp-IsAntisymmetric s.tree.files m n x y files
    (numbers-apart at other m n is is_next apart))
applied-apart s h k at other (rewrites m x) (leaves right) files handles is is_next apart = refl
applied-apart s h k at other (leaves left) nothing files handles is is_next apart = refl
applied-apart s h k at other (leaves left) (rewrites n y) files handles is is_next apart = refl
applied-apart s h k at other (leaves left) (leaves right) files handles is is_next apart =
    ap (λ (hs : Handles). record s { handles = hs })
    (put-put bytes_cmp nat_list_cmp_total bytes_cmp-same s.handles h k (Listing left) (Listing right) handles
    (handles-apart at other h k is.0 is_next.0 apart))
applied-apart s h k at other closes next files handles is is_next apart =
    absurd (let shared : share at other ≡ true = ap (λ x. share x other) is in cc)
applied-apart s h k at other change closes files handles is is_next apart =
    absurd (let shared : share at other ≡ true = ap (share at) is_next ∙ share-everything at in cc)

-- ==== Which requests touch everything, whatever the state is.

through-all : (needed : Needed) (changes : Bool) (handle : List ℕ) (found : Option Open) → bars needed ≡ true
    → touched_through needed changes handle found ≡ everything
through-all anything changes handle found is = refl
through-all a_file changes handle found is = absurd cc
through-all a_listing changes handle found is = absurd cc

-- what it touches shares nothing with a request that touches nothing
through-one : (needed : Needed) (changes : Bool) (handle : List ℕ) (found : Option Open) → bars needed ≡ false
    → share (touched_through needed changes handle found) untouched ≡ false
through-one anything changes handle found is = absurd cc
through-one a_file changes handle None is = refl
through-one a_file true handle (Some (File number flags)) is = refl
through-one a_file false handle (Some (File number flags)) is = refl
through-one a_file changes handle (Some (Listing left)) is = refl
through-one a_listing changes handle None is = refl
through-one a_listing changes handle (Some (File number flags)) is = refl
through-one a_listing changes handle (Some (Listing left)) is = refl

module _ (s : State) (ask : Ask) where
  all-by : (named : Option (List ℕ)) → bars_by named (row_of ask).needed ≡ true
      → touched_by s ask named ≡ everything
  all-by None is = refl
  all-by (Some handle) is = through-all (row_of ask).needed (may_change ask) handle (open_at s.handles handle) is

  one-by : (named : Option (List ℕ)) → bars_by named (row_of ask).needed ≡ false
      → share (touched_by s ask named) untouched ≡ false
  one-by None is = absurd cc
  one-by (Some handle) is = through-one (row_of ask).needed (may_change ask) handle (open_at s.handles handle) is

  pub barrier-touches : is_barrier ask ≡ true → touched s ask ≡ everything
  unfolding touched
  barrier-touches = all-by (asked_handle ask)

  -- what shares something with a request that touches nothing is everything
  pub other-touches : is_barrier ask ≡ false → touched s ask ≢ everything
  unfolding touched
  other-touches is all =
      absurd
      (let apart = one-by (asked_handle ask) is in
      let shared : share (touched_by s ask (asked_handle ask)) untouched ≡ true = ap (λ x. share x untouched) all in
      cc)

-- ==== Requests that do not clash may change places.

-- ---- a change in a good state changes only that

module _ (s : State) (ask : Ask) (handle : List ℕ) (answer : Answer) (good : Good s) (fit : IsAsk ask) where
  rewritten : (number : ℕ) (before next : Content) → content_at s.tree.files number ≡ Some before → IsContent next
      → has_file_room s.tree number next ≡ true
      → changed s handle (rewrites number next) ≡ applied s handle (rewrites number next)
  rewritten number before next there is room =
      settled-already (record s.tree { files = with_content s.tree.files number next }) s.handles
      (kept-content-within s.tree number before next good.tree there is
      (content-room s.tree number next good.tree ∙ room))
      good.pinned

  content-changed : (number : ℕ) (flags : OpenFlags) (before : Content) (next : Option Content)
      → (row_of ask).content flags before ≡ next → content_at s.tree.files number ≡ Some before
      → is_none (with_file_room s.tree number ((row_of ask).refused flags) next) ≡ true
      → changed s handle (change_file number next) ≡ applied s handle (change_file number next)
  content-changed number flags before None is there free = good-settled s good
  content-changed number flags before (Some next) is there free =
      let content = each-get nat_cmp nat_cmp-IsAntisymmetric (λ e. IsContent e.1) s.tree.files number before
      good.tree.well_formed.contents there in
      rewritten number before next there (next-content ask flags before next fit content is)
      (room-left s.tree number ((row_of ask).refused flags) next free)

  number-changed : (number : ℕ) (flags : OpenFlags) (found : Option Content) → content_at s.tree.files number ≡ found
      → is_none (causes_of s.tree (row_of ask) (seen_file number flags found)) ≡ true
      → changed s handle (change_of (row_of ask) (seen_file number flags found) answer)
      ≡ applied s handle (change_of (row_of ask) (seen_file number flags found) answer)
  number-changed number flags None there free = good-settled s good
  number-changed number flags (Some before) there free =
      content-changed number flags before ((row_of ask).content flags before) refl there free

  open-changed : (needed : Needed) (found : Option Open) → open_at s.handles handle ≡ found
      → is_none (causes_of s.tree (row_of ask) (seen_among s.tree.files needed found)) ≡ true
      → changed s handle (change_of (row_of ask) (seen_among s.tree.files needed found) answer)
      ≡ applied s handle (change_of (row_of ask) (seen_among s.tree.files needed found) answer)
  open-changed needed None there free = good-settled s good
  open-changed anything (Some it) there free = refl
  open-changed a_file (Some (File number flags)) there free =
      number-changed number flags (content_at s.tree.files number) refl free
  open-changed a_file (Some (Listing left)) there free = good-settled s good
  open-changed a_listing (Some (File number flags)) there free = good-settled s good
  open-changed a_listing (Some (Listing left)) there free =
      settled-already s.tree (with_open s.handles handle (Listing (struck left (names_given answer)))) good.tree
      (good.pinned
      ∙ sym (pins-listing_again s.handles handle left (struck left (names_given answer)) good.ordered there))

  changed-applied : is_none (causes_of s.tree (row_of ask) (seen s (row_of ask).needed handle)) ≡ true
      → changed s handle (change_of (row_of ask) (seen s (row_of ask).needed handle) answer)
      ≡ applied s handle (change_of (row_of ask) (seen s (row_of ask).needed handle) answer)
  unfolding seen
  changed-applied = open-changed (row_of ask).needed (open_at s.handles handle) refl

-- ---- a step is decided by what the request sees

unfoldable pub decided : Bool → Bool → Change → Option Change
decided true answered change = Some nothing
decided false true change = Some change
decided false false change = None

-- what an allowed answer changes
abbrev pub outcome : Tree → Row → Seen → Answer → Option Change
outcome t row it answer =
    decided (refuses (causes_of t row it) answer)
    (is_none (causes_of t row it) && says (said_of (limits t) row it) answer) (change_of row it answer)

module _ (s : State) (ask : Ask) (handle : List ℕ) (answer : Answer) (asked : asked_handle ask ≡ Some handle) where
  abbrev it : Seen
  it = seen s (row_of ask).needed handle

  causes-are : causes s ask ≡ causes_of s.tree (row_of ask) it
  unfolding causes
  causes-are = ap (causes_by s ask) asked

  answers-are : answers s ask answer ≡ says (said_of (limits s.tree) (row_of ask) it) answer
  unfolding answers
  answers-are = ap (λ h. says (said_to s ask h) answer) asked

  after-is : after s ask answer ≡ changed s handle (change_of (row_of ask) it answer)
  unfolding after
  after-is = ap (after_by s ask answer) asked

  module _ (good : Good s) (fit : IsAsk ask) where
    step-by : (refused none said : Bool) → is_none (causes_of s.tree (row_of ask) it) ≡ none
        → stepped s ask answer refused (none && said)
        ≡ option_map (applied s handle) (decided refused (none && said) (change_of (row_of ask) it answer))
    unfolding decided
    step-by true none said is = refl
    step-by false true true is =
        ap (λ (end : State). Some end) (after-is ∙ changed-applied s ask handle answer good fit is)
    step-by false true false is = refl
    step-by false false said is = refl

    pub step-applied : step s ask answer
        ≡ option_map (applied s handle) (outcome s.tree (row_of ask) it answer)
    unfolding step
    step-applied =
        (λ i. stepped s ask answer (refuses (causes-are i) answer) (is_none (causes-are i) && answers-are i))
        ∙ step-by (refuses (causes_of s.tree (row_of ask) it) answer)
        (is_none (causes_of s.tree (row_of ask) it))
        (says (said_of (limits s.tree) (row_of ask) it) answer) refl

  decided-touches : (refused answered : Bool) (change : Change)
      → decided refused answered (change_of (row_of ask) it answer) ≡ Some change
      → IsChangeTo s handle (touched s ask) change
  unfolding decided
  decided-touches true answered change is =
      subst (IsChangeTo s handle (touched s ask)) (same_Some nothing change is) tt
  decided-touches false true change is =
      subst (IsChangeTo s handle (touched s ask)) (same_Some (change_of (row_of ask) it answer) change is)
      (change-touches s ask handle answer asked)
  decided-touches false false change is = absurd cc

  pub outcome-touches : (change : Change) → outcome s.tree (row_of ask) it answer ≡ Some change
      → IsChangeTo s handle (touched s ask) change
  outcome-touches =
      decided-touches (refuses (causes_of s.tree (row_of ask) it) answer)
      (is_none (causes_of s.tree (row_of ask) it) && says (said_of (limits s.tree) (row_of ask) it) answer)

-- an allowed step changes something of what the request touches, and nothing else
pub record Changes (s : State) (ask : Ask) (handle : List ℕ) (answer : Answer) (end : State) : Type 0 where
  pub change : Change
  pub outcome_is : outcome s.tree (row_of ask) (seen s (row_of ask).needed handle) answer ≡ Some change
  pub end_is : end ≡ applied s handle change
  pub touches : IsChangeTo s handle (touched s ask) change

mapped : (s end : State) (handle : List ℕ) (found : Option Change) → option_map (applied s handle) found ≡ Some end
    → (change : Change) × (found ≡ Some change) × (end ≡ applied s handle change)
mapped s end handle None is = absurd cc
mapped s end handle (Some change) is = (change, refl, sym (same_Some (applied s handle change) end is))

pub changes-of : (s end : State) (ask : Ask) (handle : List ℕ) (answer : Answer) → asked_handle ask ≡ Some handle
    → Good s → IsAsk ask → step s ask answer ≡ Some end → Changes s ask handle answer end
changes-of s end ask handle answer asked good fit is =
    let found = mapped s end handle (outcome s.tree (row_of ask) (seen s (row_of ask).needed handle) answer)
    (sym (step-applied s ask handle answer asked good fit) ∙ is) in
    record {
      change = found.0;
      outcome_is = found.1;
      end_is = found.2;
      touches = outcome-touches s ask handle answer asked found.0 found.1;
    }

-- what does not touch everything names a handle
handle-by : (s : State) (ask : Ask) (named : Option (List ℕ)) → touched_by s ask named ≢ everything
    → (handle : List ℕ) × (named ≡ Some handle)
handle-by s ask None apart = absurd (apart refl)
handle-by s ask (Some handle) apart = (handle, refl)

pub handle-of : (s : State) (ask : Ask) → touched s ask ≢ everything
    → (handle : List ℕ) × (asked_handle ask ≡ Some handle)
unfolding touched
handle-of s ask = handle-by s ask (asked_handle ask)

pub not-everything : (at other : Touched) → share at other ≡ false → at ≢ everything
not-everything at other apart is = absurd (let shared : share at other ≡ true = ap (λ x. share x other) is in cc)

pub limits-stay : (s : State) (handle : List ℕ) (at : Touched) (change : Change) → IsChangeTo s handle at change
    → at ≢ everything → limits (applied s handle change).tree ≡ limits s.tree
limits-stay s handle at nothing is apart = refl
limits-stay s handle at (rewrites number next) is apart = refl
limits-stay s handle at (leaves left) is apart = refl
limits-stay s handle at closes is apart = absurd (apart is)

-- ---- the room that a request needs stays

-- what may change a file shares room with another file, where the limits bound that
bounded-not : (far same : Bool) → same ≡ false → (far && not same) ≡ false → far ≡ false
bounded-not false same apart none = refl
bounded-not true false apart none = absurd cc
bounded-not true true apart none = absurd cc

-- the state in which the file of a number has this content
abbrev exchanged_file : State → ℕ → Content → State
exchanged_file s n next = record s { tree = record s.tree { files = with_content s.tree.files n next } }

module _ (s : State) (ask : Ask) (h : List ℕ) (n : ℕ) (next : Content) (good : Good s)
    (good_after : Good (exchanged_file s n next)) where
  -- by whether it changes its file
  room-still : (m : ℕ) (flags : OpenFlags) (before : Content) (changes : Bool) (content : Option Content)
      → may_change ask ≡ changes → (row_of ask).content flags before ≡ content
      → share (touched_through a_file changes h (Some (File m flags))) (writes_file n) ≡ false
      → room_clash (limits s.tree) (touched_through a_file changes h (Some (File m flags))) (writes_file n) ≡ false
      → with_file_room (exchanged_file s n next).tree m ((row_of ask).refused flags) content
      ≡ with_file_room s.tree m ((row_of ask).refused flags) content
  room-still m flags before changes None may is apart room = refl
  room-still m flags before false (Some x) may is apart room =
      absurd (let changed = sym may ∙ may-change ask flags before x is in cc)
  room-still m flags before true (Some x) may is apart room =
      let near : AreRaised (limits s.tree) =
      not_far (limits s.tree) good.tree.well_formed.limits (bounded-not (are_far (limits s.tree)) (m == n) apart room) in
      ap (λ (fits : Bool). when ((row_of ask).refused flags) NoRoom (is_none ((row_of ask).refused flags) && not fits))
      (room-near (exchanged_file s n next).tree m x good_after.tree near ∙ sym (room-near s.tree m x good.tree near))

  causes-number : (m : ℕ) (flags : OpenFlags) (found : Option Content)
      → share (touched_through a_file (may_change ask) h (Some (File m flags))) (writes_file n) ≡ false
      → room_clash (limits s.tree) (touched_through a_file (may_change ask) h (Some (File m flags))) (writes_file n)
      ≡ false
      → causes_of (exchanged_file s n next).tree (row_of ask) (seen_file m flags found)
      ≡ causes_of s.tree (row_of ask) (seen_file m flags found)
  causes-number m flags None apart room = refl
  causes-number m flags (Some before) apart room =
      room-still m flags before (may_change ask) ((row_of ask).content flags before) refl refl apart room

  causes-open : (needed : Needed) (found : Option Open)
      → share (touched_through needed (may_change ask) h found) (writes_file n) ≡ false
      → room_clash (limits s.tree) (touched_through needed (may_change ask) h found) (writes_file n) ≡ false
      → causes_of (exchanged_file s n next).tree (row_of ask) (seen_among s.tree.files needed found)
      ≡ causes_of s.tree (row_of ask) (seen_among s.tree.files needed found)
  causes-open needed None apart room = refl
  causes-open anything (Some it) apart room = refl
  causes-open a_file (Some (File m flags)) apart room =
      causes-number m flags (content_at s.tree.files m) apart room
  causes-open a_file (Some (Listing left)) apart room = refl
  causes-open a_listing (Some (File m flags)) apart room = refl
  causes-open a_listing (Some (Listing left)) apart room = refl

-- the causes by what a request sees stay after a change of what it does not share
causes-stay : (s : State) (ask : Ask) (h k : List ℕ) (at : Touched) (change : Change) → asked_handle ask ≡ Some h
    → Good s → Good (applied s k change) → IsChangeTo s k at change → share (touched s ask) at ≡ false
    → room_clash (limits s.tree) (touched s ask) at ≡ false → at ≢ everything
    → causes_of (applied s k change).tree (row_of ask) (seen s (row_of ask).needed h)
    ≡ causes_of s.tree (row_of ask) (seen s (row_of ask).needed h)
unfolding seen
causes-stay s ask h k at nothing asked good good_after is apart room part = refl
causes-stay s ask h k at (rewrites n next) asked good good_after is apart room part =
    let own = touched-is s ask h asked in
    causes-open s ask h n next good good_after (row_of ask).needed (open_at s.handles h)
    ((λ i. share (sym own i) (sym is i)) ∙ apart) ((λ i. room_clash (limits s.tree) (sym own i) (sym is i)) ∙ room)
causes-stay s ask h k at (leaves left) asked good good_after is apart room part = refl
causes-stay s ask h k at closes asked good good_after is apart room part = absurd (part is)

outcome-stays : (s : State) (ask : Ask) (h k : List ℕ) (answer : Answer) (at : Touched) (change : Change)
    → asked_handle ask ≡ Some h → Good s → Good (applied s k change) → IsChangeTo s k at change
    → share (touched s ask) at ≡ false → room_clash (limits s.tree) (touched s ask) at ≡ false → at ≢ everything
    → outcome (applied s k change).tree (row_of ask) (seen (applied s k change) (row_of ask).needed h) answer
    ≡ outcome s.tree (row_of ask) (seen s (row_of ask).needed h) answer
outcome-stays s ask h k answer at change asked good good_after is apart room part =
    ap (λ (it : Seen). outcome (applied s k change).tree (row_of ask) it answer)
    (seen-stays s ask h k at change asked is apart)
    ∙ (λ i.
    let set = causes-stay s ask h k at change asked good good_after is apart room part i in
    let it = seen s (row_of ask).needed h in
    decided (refuses set answer)
    (is_none set && says (said_of (limits-stay s k at change is part i) (row_of ask) it) answer)
    (change_of (row_of ask) it answer))

-- a step is still possible after a change of what it does not share
still-steps : (s : State) (ask : Ask) (h k : List ℕ) (answer : Answer) (at : Touched) (change next : Change)
    → asked_handle ask ≡ Some h → Good s → Good (applied s k change) → IsAsk ask → IsChangeTo s k at change
    → share (touched s ask) at ≡ false → room_clash (limits s.tree) (touched s ask) at ≡ false → at ≢ everything
    → outcome s.tree (row_of ask) (seen s (row_of ask).needed h) answer ≡ Some next
    → step (applied s k change) ask answer ≡ Some (applied (applied s k change) h next)
still-steps s ask h k answer at change next asked good good_after fit is apart room part found =
    step-applied (applied s k change) ask h answer asked good_after fit
    ∙ ap (option_map (applied (applied s k change) h))
    (outcome-stays s ask h k answer at change asked good good_after is apart room part ∙ found)

-- the same the other way round
before-steps : (s : State) (ask : Ask) (h k : List ℕ) (answer : Answer) (at : Touched) (change next : Change)
    → asked_handle ask ≡ Some h → Good s → Good (applied s k change) → IsChangeTo s k at change
    → share (touched s ask) at ≡ false → room_clash (limits s.tree) (touched s ask) at ≡ false → at ≢ everything
    → outcome (applied s k change).tree (row_of ask) (seen (applied s k change) (row_of ask).needed h) answer
    ≡ Some next
    → outcome s.tree (row_of ask) (seen s (row_of ask).needed h) answer ≡ Some next
before-steps s ask h k answer at change next asked good good_after is apart room part found =
    sym (outcome-stays s ask h k answer at change asked good good_after is apart room part) ∙ found

abbrev pub StaysGood : Type 0
StaysGood = (s : State) (request : Request) (reply : Reply) (end : State) → Good s → IsAsk request.ask
    → Allowed s request reply end → Good end

module _ (stays-good : StaysGood) (s mid end : State) (request other : Request) (reply next : Reply) (good : Good s)
    (fit : IsAsk request.ask) (fit_other : IsAsk other.ask)
    (room : room_clash (limits s.tree) (touched s request.ask) (touched s other.ask) ≡ false)
    (apart : share (touched s request.ask) (touched s other.ask) ≡ false)
    (first : Allowed s other next mid) (second : Allowed mid request reply end) where
  turned : share (touched s other.ask) (touched s request.ask) ≡ false
  turned = share-mutual (touched s other.ask) (touched s request.ask) ∙ apart

  room-turned : room_clash (limits s.tree) (touched s other.ask) (touched s request.ask) ≡ false
  room-turned = room-mutual (limits s.tree) (touched s other.ask) (touched s request.ask) ∙ room

  part : touched s request.ask ≢ everything
  part = not-everything (touched s request.ask) (touched s other.ask) apart

  other-part : touched s other.ask ≢ everything
  other-part = not-everything (touched s other.ask) (touched s request.ask) turned

  named : (handle : List ℕ) × (asked_handle request.ask ≡ Some handle)
  named = handle-of s request.ask part

  other-named : (handle : List ℕ) × (asked_handle other.ask ≡ Some handle)
  other-named = handle-of s other.ask other-part

  one : Changes s other.ask other-named.0 next.answer mid
  one = changes-of s mid other.ask other-named.0 next.answer other-named.1 good fit_other
      (allowed-step s other next mid first)

  good-mid : Good (applied s other-named.0 one.change)
  good-mid = subst Good one.end_is (stays-good s other next mid good fit_other first)

  two : Changes (applied s other-named.0 one.change) request.ask named.0 reply.answer end
  two = changes-of (applied s other-named.0 one.change) end request.ask named.0 reply.answer named.1 good-mid fit
      (allowed-step (applied s other-named.0 one.change) request reply end
      (subst (λ (m : State). Allowed m request reply end) one.end_is second))

  early : outcome s.tree (row_of request.ask) (seen s (row_of request.ask).needed named.0) reply.answer
      ≡ Some two.change
  early = before-steps s request.ask named.0 other-named.0 reply.answer (touched s other.ask) one.change two.change
      named.1 good good-mid one.touches apart room other-part two.outcome_is

  touches : IsChangeTo s named.0 (touched s request.ask) two.change
  touches = outcome-touches s request.ask named.0 reply.answer named.1 two.change early

  first-now : Allowed s request reply (applied s named.0 two.change)
  first-now = step-is_allowed s request reply (applied s named.0 two.change) second.same_id
      (step-applied s request.ask named.0 reply.answer named.1 good fit
      ∙ ap (option_map (applied s named.0)) early)

  good-between : Good (applied s named.0 two.change)
  good-between = stays-good s request reply (applied s named.0 two.change) good fit first-now

  end-is : end ≡ applied (applied s named.0 two.change) other-named.0 one.change
  end-is = two.end_is
      ∙ sym (applied-apart s named.0 other-named.0 (touched s request.ask) (touched s other.ask) two.change one.change
      good.tree.well_formed.numbered good.ordered touches one.touches apart)

  second-now : Allowed (applied s named.0 two.change) other next
      (applied (applied s named.0 two.change) other-named.0 one.change)
  second-now = step-is_allowed (applied s named.0 two.change) other next
      (applied (applied s named.0 two.change) other-named.0 one.change) first.same_id
      (still-steps s other.ask other-named.0 named.0 next.answer (touched s request.ask) two.change one.change
      other-named.1 good good-between fit_other touches turned room-turned part one.outcome_is)

  pub exchanged : ComesFirst s request other reply next end
  exchanged = record {
    between = applied s named.0 two.change;
    first = first-now;
    second = subst (Allowed (applied s named.0 two.change) other next) (sym end-is) second-now;
  }

-- ---- what requests touch stays

pub touched-past : (s end : State) (request : Request) (reply : Reply) (ask : Ask) → Good s → IsAsk request.ask
    → touched s request.ask ≢ everything → Allowed s request reply end → touched end ask ≡ touched s ask
touched-past s end request reply ask good fit part allowed =
    let named = handle-of s request.ask part in
    let one = changes-of s end request.ask named.0 reply.answer named.1 good fit
    (allowed-step s request reply end allowed) in
    ap (λ (e : State). touched e ask) one.end_is
    ∙ touched-stays s ask named.0 (touched s request.ask) one.change one.touches part

pub touched-after : (s end : State) (request other : Request) (reply : Reply) (ask : Ask) → Good s
    → IsAsk request.ask → share (touched s request.ask) (touched s other.ask) ≡ false
    → Allowed s request reply end → touched end ask ≡ touched s ask
touched-after s end request other reply ask good fit apart allowed =
    touched-past s end request reply ask good fit
    (not-everything (touched s request.ask) (touched s other.ask) apart) allowed

-- ---- limits stay, and conflicts

pub limits-past : (s end : State) (request : Request) (reply : Reply) → Good s → IsAsk request.ask
    → touched s request.ask ≢ everything → Allowed s request reply end → limits end.tree ≡ limits s.tree
limits-past s end request reply good fit part allowed =
    let named = handle-of s request.ask part in
    let one = changes-of s end request.ask named.0 reply.answer named.1 good fit
    (allowed-step s request reply end allowed) in
    ap (λ (e : State). limits e.tree) one.end_is
    ∙ limits-stay s named.0 (touched s request.ask) one.change one.touches part

-- what shares room stays
pub room-past : (s end : State) (request : Request) (reply : Reply) (ask other : Ask) → Good s → IsAsk request.ask
    → touched s request.ask ≢ everything → Allowed s request reply end
    → room_clash (limits end.tree) (touched end ask) (touched end other)
    ≡ room_clash (limits s.tree) (touched s ask) (touched s other)
room-past s end request reply ask other good fit part allowed = λ i.
    room_clash (limits-past s end request reply good fit part allowed i)
    (touched-past s end request reply ask good fit part allowed i)
    (touched-past s end request reply other good fit part allowed i)

pub clash-after : (s end : State) (request other : Request) (reply : Reply) (earlier later : Request) → Good s
    → IsAsk request.ask → share (touched s request.ask) (touched s other.ask) ≡ false
    → Allowed s request reply end → clash end earlier later ≡ clash s earlier later
unfolding clash
clash-after s end request other reply earlier later good fit apart allowed =
    let part = not-everything (touched s request.ask) (touched s other.ask) apart in
    λ i.
    room-past s end request reply earlier.ask later.ask good fit part allowed i
    || share (touched-past s end request reply earlier.ask good fit part allowed i)
    (touched-past s end request reply later.ask good fit part allowed i)
