-- Good states: that requests on paths leave a good state good.
use Rattle.sftp_handles.proofs.Imports.{◌≡◌, ℕ, List, [], arith, le-leb, bytes_cmp, get, InOrder-empty, Tree, IsKept}
use Rattle.sftp_handles.proofs.Imports.{limits, pins_of, settled, Good, ◌==◌, not, nat_lt, nat_le, ◌+◌, ◌≤◌, Bool}
use Rattle.sftp_handles.proofs.Imports.{true, false, length, if◌then◌else◌, Option, Some, None, Result, Ok, Err}
use Rattle.sftp_handles.proofs.Imports.{leb-true, refl, sym, ap, subst, ◌∙◌, IsTrue, is_some, nat_list_cmp_total}
use Rattle.sftp_handles.proofs.Imports.{and_parts, eqb-true, same_Some, Attrs, Ask, Answer, handle_limit, IsAsk}
use Rattle.sftp_handles.proofs.Imports.{Place, place_cmp, size, bytes_cmp-same, place_cmp-same, place_cmp-total}
use Rattle.sftp_handles.proofs.Imports.{InOrder-put, size-put, get-put_here, Cause, Unknown, listing, Content, Node}
use Rattle.sftp_handles.proofs.Imports.{Files, Pins, IsNode, HasFile, node_at, content_at, is_pinned, times_pinned}
use Rattle.sftp_handles.proofs.Imports.{with_pin, one_if, truncates, no_causes, is_none, when, Told, done, led}
use Rattle.sftp_handles.proofs.Imports.{led_to, told_at, outcome, IsFree, each-get, each-put, pins-stay, limits-stay}
use Rattle.sftp_handles.proofs.Imports.{Stands, outcome-is, none-each, PathsLeadWell, outcome-stands, Opened, File}
use Rattle.sftp_handles.proofs.Imports.{Listing, Left, open_at, with_open, is_open, kept_flags, State, IsOpen}
use Rattle.sftp_handles.proofs.Imports.{IsHandle, IsLeft, has_handle_left, is_new_handle, says, causes, answers}
use Rattle.sftp_handles.proofs.Imports.{after, asked_handle, with_handle_room, told_to, said_by, said_to, flags_of}
use Rattle.sftp_handles.proofs.Imports.{opened_by, with_new, after_by, causes_by, path_causes, path_said, inl, inr}
use Rattle.sftp_handles.proofs.Imports.{Request, Reply, Allowed}
use Rattle.sftp_handles.proofs.Good.Pins.{state_of, settled-already}
use Rattle.sftp_handles.proofs.Good.{OpensExist, good-by, room-of, good-through, pinned-exist}
use Rattle.sftp_packets.specs.declared.requests.Ask.TheVariants as asks
use Rattle.sftp_packets.specs.declared.requests.Ask.TheVariants.{Open, Opendir}
use Rattle.sftp_packets.specs.declared.replies.Answer.TheVariants as replies
use Rattle.sftp_tree.specs.declared.nodes.Node.TheVariants as nodes
use Rattle.sftp_tree.specs.Changes.{carried, no_change, empty_file, plan_to_open, with_emptied_file}
use Rattle.sftp_tree.specs.Requests.{file, number_at}
use Rattle.sftp_tree.specs.Requests as paths
use Rattle.sftp_handles.proofs.Good.Pins.{pin-times, pins-open_file, pins-open_listing}
use Rattle.sftp_handles.proofs.Answered.LimitsAnswers.{limits-still}

-- ==== The state in which a session starts.

-- nothing is open, so nothing is pinned
none-open : (t : Tree) → OpensExist t.files []
unfolding pins_of get
none-open t number pinned = absurd cc

pub good-start : (t : Tree) → IsKept t → Good (settled t [])
good-start t kept =
    good-by t [] kept.well_formed kept.within_limits (none-open t) (InOrder-empty (List ℕ) bytes_cmp) tt
    (le-leb 0 (limits t).open_handles (omega arith))

pub same-start : (t : Tree) → IsKept t → t.pins ≡ [] → settled t [] ≡ state_of t []
unfolding pins_of
same-start t kept none = settled-already t [] kept none

not-open : (o : Option Opened) → not (is_some o) ≡ true → o ≡ None
not-open None is = refl
not-open (Some it) is = absurd cc

-- ---- nothing is opened

module _ (paths-lead : PathsLeadWell) (s : State) (ask : Ask) (good : Good s) (fit : IsAsk ask)
    (free : IsFree s.tree ask) where
  stands : Stands (outcome s.tree ask)
  stands = outcome-stands paths-lead s.tree ask good.tree.well_formed good.tree.within_limits fit free

  -- the files that are open exist still
  opens-left : OpensExist (outcome s.tree ask).files s.handles
  opens-left = pinned-exist (outcome s.tree ask) s.handles stands.well_formed (pins-stay s.tree ask ∙ good.pinned)

  same-few : (n : ℕ) → nat_le n (limits s.tree).open_handles ≡ true
      → nat_le n (limits (outcome s.tree ask)).open_handles ≡ true
  same-few n few = ap (λ bounds. nat_le n bounds.open_handles) (limits-stay s.tree ask) ∙ few

  pub good-plain : Good (settled (outcome s.tree ask) s.handles)
  good-plain =
      good-by (outcome s.tree ask) s.handles stands.well_formed stands.within_limits opens-left
      good.ordered good.handles (same-few (size s.handles) good.few)

  -- ---- something is opened under a new handle

  module _ (handle : List ℕ) (it : Opened) (short : length handle ≤ handle_limit)
      (absent : open_at s.handles handle ≡ None)
      (room : nat_le (size s.handles + 1) (limits s.tree).open_handles ≡ true)
      (is_open : IsOpen it)
      (exist : OpensExist (outcome s.tree ask).files (with_open s.handles handle it)) where
    pub good-opened : Good (settled (outcome s.tree ask) (with_open s.handles handle it))
    good-opened =
        good-by (outcome s.tree ask) (with_open s.handles handle it) stands.well_formed stands.within_limits exist
        (InOrder-put bytes_cmp nat_list_cmp_total s.handles handle it good.ordered)
        (each-put bytes_cmp bytes_cmp-same nat_list_cmp_total IsHandle s.handles handle it good.ordered
        (short, is_open) good.handles)
        (same-few (size (with_open s.handles handle it))
        (ap (λ n. nat_le n (limits s.tree).open_handles) (size-put bytes_cmp s.handles handle it absent) ∙ room))

-- ---- OPEN

-- the place that OPEN led to has a name of the file that is opened
pub opened-named : (t : Tree) (pflags : ℕ) (attrs : Attrs) (place : Place) (found : Option Node)
    → node_at t.names place ≡ found → (n : ℕ) → number_at t found ≡ Some n
    → node_at (carried t (plan_to_open t pflags attrs place found)).names place ≡ Some (nodes.File n)
opened-named t pflags attrs place None there n is =
    subst (λ m. node_at (carried t (plan_to_open t pflags attrs place None)).names place ≡ Some (nodes.File m))
    (same_Some t.made n is)
    (get-put_here place_cmp place_cmp-total t.names place (nodes.File t.made))
opened-named t pflags attrs place (Some (nodes.File m)) there n is =
    let same : node_at t.names place ≡ Some (nodes.File n) = there ∙ ap (λ k. Some (nodes.File k)) (same_Some m n is) in
    by (truncates pflags) (content_at t.files m) refl same
  where
    by : (b : Bool) (content : Option Content) → content_at t.files m ≡ content
        → node_at t.names place ≡ Some (nodes.File n)
        → node_at (carried t (if b then empty_file m else no_change)).names place ≡ Some (nodes.File n)
    by true None at same = ap (λ o. node_at (with_emptied_file t m o).names place) at ∙ same
    by true (Some content) at same = ap (λ o. node_at (with_emptied_file t m o).names place) at ∙ same
    by false content at same = same
opened-named t pflags attrs place (Some (nodes.Dir owner)) there n is = absurd cc
opened-named t pflags attrs place (Some (nodes.Link linktarget)) there n is = absurd cc

-- a file that is pinned once more exists, if it does and the others do
exist-with_pin : (files : Files) (pins : Pins) (m : ℕ) → HasFile files m
    → ((number : ℕ) → IsTrue (is_pinned pins number) → HasFile files number)
    → (number : ℕ) → IsTrue (is_pinned (with_pin pins m) number) → HasFile files number
exist-with_pin files pins m here others number pinned =
    by (number == m) refl (ap (nat_lt 0) (sym (pin-times pins m number)) ∙ pinned)
  where
    by : (b : Bool) → (number == m) ≡ b → nat_lt 0 (one_if b + times_pinned pins number) ≡ true → HasFile files number
    by true is more = subst (HasFile files) (sym (eqb-true number m is)) here
    by false is more =
        let none : times_pinned pins number ≡ one_if false + times_pinned pins number = omega arith in
        others number (ap (nat_lt 0) none ∙ more)

module _ (paths-lead : PathsLeadWell) (s : State) (path : List ℕ) (pflags : ℕ) (attrs : Attrs) (good : Good s)
    (fit : IsAsk (Open path pflags attrs))
    (free : is_none (with_handle_room s (paths.causes s.tree (Open path pflags attrs))) ≡ true) where
  abbrev ask : Ask
  ask = Open path pflags attrs

  plain : Good (settled (outcome s.tree ask) s.handles)
  plain = good-plain paths-lead s ask good fit (room-of (paths.causes s.tree ask) (has_handle_left s) free).0

  file-there : (place : Place) (n : ℕ) → led s.tree ask ≡ Some (Ok place)
      → number_at s.tree (node_at s.tree.names place) ≡ Some n → HasFile (outcome s.tree ask).files n
  file-there place n leads is =
      let is_free = (room-of (paths.causes s.tree ask) (has_handle_left s) free).0 in
      let well = (stands paths-lead s ask good fit is_free).well_formed in
      let there = ap (λ (t : Tree). node_at t.names place) (outcome-is s.tree ask (Some (Ok place)) None leads refl)
      ∙ opened-named s.tree pflags attrs place (node_at s.tree.names place) refl n is in
      each-get place_cmp place_cmp-same (λ e. IsNode (outcome s.tree ask).files e.1) (outcome s.tree ask).names place
      (nodes.File n) well.nodes there

  open-file : (place : Place) (n : ℕ) (answer : Answer) → led s.tree ask ≡ Some (Ok place)
      → number_at s.tree (node_at s.tree.names place) ≡ Some n → is_new_handle s.handles answer ≡ true
      → Good (settled (outcome s.tree ask) (with_new s.handles (Some (File n (kept_flags pflags))) answer))
  open-file place n (replies.Handle handle) leads is new =
      let parts = and_parts (nat_le (length handle) handle_limit) (not (is_open s.handles handle)) new in
      let room = room-of (paths.causes s.tree ask) (has_handle_left s) free in
      let absent = not-open (open_at s.handles handle) parts.1 in
      let same = pins-open_file s.handles handle n (kept_flags pflags) absent in
      good-opened paths-lead s ask good fit room.0 handle (File n (kept_flags pflags))
      (leb-true (length handle) handle_limit parts.0) absent room.1 tt
      (λ number pinned.
      exist-with_pin (outcome s.tree ask).files (pins_of s.handles) n (file-there place n leads is)
      (opens-left paths-lead s ask good fit room.0) number (ap (λ pins. is_pinned pins number) (sym same) ∙ pinned))
  open-file place n other leads is new = plain

  open-number : (place : Place) (answer : Answer) (number : Option ℕ) → led s.tree ask ≡ Some (Ok place)
      → number_at s.tree (node_at s.tree.names place) ≡ number → is_new_handle s.handles answer ≡ true
      → Good (settled (outcome s.tree ask) (with_new s.handles (opened_by pflags (file number)) answer))
  open-number place answer None leads is new = plain
  open-number place answer (Some n) leads is new = open-file place n answer leads is new

  open-led : (answer : Answer) (end : Option (Result Place Cause)) → led s.tree ask ≡ end
      → says (said_by s.handles (led_to done end (told_at s.tree ask))) answer ≡ true
      → Good (settled (outcome s.tree ask)
      (with_new s.handles (opened_by pflags (led_to done end (told_at s.tree ask))) answer))
  open-led answer None leads answered = plain
  open-led answer (Some (Err cause)) leads answered = plain
  open-led answer (Some (Ok place)) leads answered =
      open-number place answer (number_at s.tree (node_at s.tree.names place)) leads refl answered

  pub good-open : (answer : Answer) → says (said_by s.handles (told_to s.tree ask)) answer ≡ true
      → Good (settled (outcome s.tree ask) (with_new s.handles (opened_by pflags (told_to s.tree ask)) answer))
  unfolding told_to
  good-open answer = open-led answer (led s.tree ask) refl

-- ---- OPENDIR

-- what the listing of each directory gives at first can be given
abbrev pub ListingsFit : Tree → Type 0
ListingsFit t = (place : Place) → IsLeft (listing t place)

module _ (paths-lead : PathsLeadWell) (s : State) (listings-fit : ListingsFit s.tree) (path : List ℕ)
    (good : Good s)
    (fit : IsAsk (Opendir path))
    (free : is_none (with_handle_room s (paths.causes s.tree (Opendir path))) ≡ true) where
  abbrev list_ask : Ask
  list_ask = Opendir path

  list-plain : Good (settled (outcome s.tree list_ask) s.handles)
  list-plain =
      good-plain paths-lead s list_ask good fit
      (room-of (paths.causes s.tree list_ask) (has_handle_left s) free).0

  open-listing : (left : Left) (answer : Answer) → IsLeft left → is_new_handle s.handles answer ≡ true
      → Good (settled (outcome s.tree list_ask) (with_new s.handles (Some (Listing left)) answer))
  open-listing left (replies.Handle handle) is new =
      let parts = and_parts (nat_le (length handle) handle_limit) (not (is_open s.handles handle)) new in
      let room = room-of (paths.causes s.tree list_ask) (has_handle_left s) free in
      let absent = not-open (open_at s.handles handle) parts.1 in
      let same = pins-open_listing s.handles handle left absent in
      good-opened paths-lead s list_ask good fit room.0 handle (Listing left)
      (leb-true (length handle) handle_limit parts.0) absent room.1 is
      (λ number pinned.
      opens-left paths-lead s list_ask good fit room.0 number (ap (λ pins. is_pinned pins number) (sym same) ∙ pinned))
  open-listing left other is new = list-plain

  list-led : (answer : Answer) (end : Option (Result Place Cause)) → led s.tree list_ask ≡ end
      → says (said_by s.handles (led_to done end (told_at s.tree list_ask))) answer ≡ true
      → Good (settled (outcome s.tree list_ask)
      (with_new s.handles (opened_by 0 (led_to done end (told_at s.tree list_ask))) answer))
  list-led answer None leads answered = list-plain
  list-led answer (Some (Err cause)) leads answered = list-plain
  list-led answer (Some (Ok place)) leads answered =
      open-listing (listing s.tree place) answer (listings-fit place) answered

  pub good-list : (answer : Answer) → says (said_by s.handles (told_to s.tree list_ask)) answer ≡ true
      → Good (settled (outcome s.tree list_ask) (with_new s.handles (opened_by 0 (told_to s.tree list_ask)) answer))
  unfolding told_to
  good-list answer = list-led answer (led s.tree list_ask) refl

-- ---- each request

unknown : when no_causes Unknown true Unknown ≡ false → ⊥
unfolding when no_causes
unknown is = cc

-- a request that opens nothing
opens-none : (flags : ℕ) (at : Place → Told) → ((place : Place) → opened_by flags (at place) ≡ None)
    → (end : Option (Result Place Cause)) → opened_by flags (led_to done end at) ≡ None
opens-none flags at none None = refl
opens-none flags at none (Some (Ok place)) = none place
opens-none flags at none (Some (Err cause)) = refl

with-none : (s : State) (o : Option Opened) (answer : Answer) → o ≡ None → with_new s.handles o answer ≡ s.handles
with-none s None answer is = refl
with-none s (Some it) answer is = absurd cc

good-other : PathsLeadWell → (s : State) (ask : Ask) (answer : Answer) → Good s → IsAsk ask → IsFree s.tree ask
    → ((place : Place) → opened_by (flags_of ask) (told_at s.tree ask place) ≡ None)
    → Good (settled (outcome s.tree ask) (with_new s.handles (opened_by (flags_of ask) (told_to s.tree ask)) answer))
unfolding told_to
good-other paths-lead s ask answer good fit free none =
    subst (λ handles. Good (settled (outcome s.tree ask) handles))
    (sym (with-none s (opened_by (flags_of ask) (told_to s.tree ask)) answer
    (opens-none (flags_of ask) (told_at s.tree ask) none (led s.tree ask))))
    (good-plain paths-lead s ask good fit free)

module _ (paths-lead : PathsLeadWell) (s : State) (answer : Answer) (lists : ListingsFit s.tree) (good : Good s) where
  good-path : (ask : Ask) → IsAsk ask → is_none (path_causes s ask) ≡ true → says (path_said s ask) answer ≡ true
      → Good (after_by s ask answer None)
  unfolding after
  good-path (Open path pflags attrs) fit free answered =
      good-open paths-lead s path pflags attrs good fit free answer answered
  good-path (Opendir path) fit free answered = good-list paths-lead s lists path good fit free answer answered
  good-path (asks.Unknown extension rest) fit free answered =
      absurd (let one = none-each (when no_causes Unknown true) free Unknown in unknown one)
  good-path asks.Limits fit free answered = subst Good (sym (limits-still s answer good)) good
  good-path other fit free answered = good-other paths-lead s other answer good fit free (λ place. refl)

  good-by-handle : (ask : Ask) (named : Option (List ℕ)) → IsAsk ask → is_none (causes_by s ask named) ≡ true
      → says (said_to s ask named) answer ≡ true → Good (after_by s ask answer named)
  good-by-handle ask None fit free answered = good-path ask fit free answered
  good-by-handle ask (Some handle) fit free answered = good-through s ask handle answer good fit free

pub good-after : PathsLeadWell → (s : State) (ask : Ask) (answer : Answer)
    → ListingsFit s.tree → Good s → IsAsk ask
    → is_none (causes s ask) ≡ true → answers s ask answer ≡ true → Good (after s ask answer)
unfolding causes answers after
good-after paths-lead s ask answer lists good fit free answered =
    good-by-handle paths-lead s answer lists good ask (asked_handle ask) fit free answered

-- ==== Good states: that each step leads from one to another.

pub allowed-good : PathsLeadWell → (s : State) (request : Request) (reply : Reply) (end : State)
    → ListingsFit s.tree → Good s → IsAsk request.ask
    → Allowed s request reply end → Good end
allowed-good paths-lead s request reply end lists good fit a = elim a.step [
  | inl r ↦ subst Good (sym r.unchanged) good
  | inr d ↦ subst Good (sym d.changed)
      (good-after paths-lead s request.ask reply.answer lists good fit d.free d.answered)
]
