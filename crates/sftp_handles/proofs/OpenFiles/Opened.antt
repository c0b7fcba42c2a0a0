-- What is opened under a new handle: the state after it, that it is good, and which steps it makes.
use Rattle.sftp_handles.proofs.Imports.{◌≡◌, ◌==◌, ◌&&◌, ◌||◌, not, nat_lt, nat_le, ℕ, ◌+◌, ◌<◌, ◌≤◌, ◌^◌, Bool, true}
use Rattle.sftp_handles.proofs.Imports.{false, cond, List, [], ◌∷◌, length, Option, Some, None, Result, Ok, Err}
use Rattle.sftp_handles.proofs.Imports.{is_some, refl, sym, ap, subst, ◌∙◌, IfOk, OnErr, arith, leb-true, filter}
use Rattle.sftp_handles.proofs.Imports.{nat_list_cmp_total, and-false}
use Rattle.sftp_handles.proofs.Imports.{and_from, or_right, le-leb, eqb-true, same_Some, Attrs, OpenFlags, Ask}
use Rattle.sftp_handles.proofs.Imports.{handle_limit, Place, bytes_cmp, place_cmp, size, retain}
use Rattle.sftp_handles.proofs.Imports.{bytes_cmp-same, place_cmp-same, one_if, InOrder-put}
use Rattle.sftp_handles.proofs.Imports.{size-put, TreeLimits, Cause, NoRoom}
use Rattle.sftp_handles.proofs.Imports.{Refused, Tree, Names, Pins, WellFormed, IsKept, IsNode, HasFile, node_at}
use Rattle.sftp_handles.proofs.Imports.{limits, trim, is_named, is_pinned, times_pinned, with_pin, after_pin, listing}
use Rattle.sftp_handles.proofs.Imports.{CauseSet, is_none, when, only, done, led, led_to, told_at, outcome, new_led}
use Rattle.sftp_handles.proofs.Imports.{outcome-is, none-each, each-none, pins-stay, limits-stay, trimmed-already}
use Rattle.sftp_handles.proofs.Imports.{each-get, each-put, Open, File, Listing, Left, Handles, open_at, with_open}
use Rattle.sftp_handles.proofs.Imports.{is_open, pins_of, times_open, opens_file, kept_flags, State, Good}
use Rattle.sftp_handles.proofs.Imports.{settled, IsOpen, IsHandle, IsLeft, has_handle_left, is_new_handle, says, causes}
use Rattle.sftp_handles.proofs.Imports.{answers, after, said_by, told_to, opened_by, with_new, Does, IsRefusal}
use Rattle.sftp_packets.specs.declared.requests.Ask.TheVariants as asks
use Rattle.sftp_packets.specs.declared.replies.Answer.TheVariants as replies
use Rattle.sftp_tree.specs.declared.causes.Refused.TheVariants as refusals
use Rattle.sftp_tree.specs.Told as refusals_of
use Rattle.sftp_tree.specs.declared.nodes.Node.TheVariants as nodes
use Rattle.sftp_tree.specs.Requests as paths
use Rattle.sftp_tree.specs.Requests.{file, listed, outcome_led}
use Rattle.sftp_tree.specs.Told.{number_of, names_of, file_to, listing_to}
use Rattle.sftp_tree.proofs.KeptTrees.{named-there}
use Rattle.sftp_handles.proofs.Good.Pins.{pin-times, pins-times, pins-open_file, pins-open_listing}
use Rattle.sftp_handles.proofs.Good.Pins.{state_of}
use Rattle.sftp_handles.proofs.Good.GoodPaths.{opened-named}
use Rattle.sftp_listing.proofs.FirstNames.{listing-fits}

-- ---- a good state with one more handle

module _ (s : State) (handle : List ℕ) (it : Open) (good : Good s) (short : length handle ≤ handle_limit)
    (absent : open_at s.handles handle ≡ None) (room : has_handle_left s ≡ true) (is_open : IsOpen it) where
  pub good-new : (t : Tree) → IsKept t → t.limits ≡ s.tree.limits
      → t.pins ≡ pins_of (with_open s.handles handle it)
      → Good (state_of t (with_open s.handles handle it))
  good-new t kept bounds pins = record {
    tree = kept;
    pinned = pins;
    ordered = InOrder-put bytes_cmp nat_list_cmp_total s.handles handle it good.ordered;
    handles =
        each-put bytes_cmp bytes_cmp-same nat_list_cmp_total IsHandle s.handles handle it good.ordered (short, is_open)
        good.handles;
    few =
        ap (λ (bounds : TreeLimits). nat_le (size (with_open s.handles handle it)) bounds.open_handles) bounds
        ∙ (ap (λ n. nat_le n (limits s.tree).open_handles) (size-put bytes_cmp s.handles handle it absent) ∙ room);
  }

-- a listing is open under a new handle
pub good-listed : (s : State) (handle : List ℕ) (left : Left) → Good s → length handle ≤ handle_limit
    → open_at s.handles handle ≡ None → has_handle_left s ≡ true → IsLeft left
    → Good (state_of s.tree (with_open s.handles handle (Listing left)))
good-listed s handle left good short absent room is_left =
    good-new s handle (Listing left) good short absent room is_left s.tree good.tree refl
    (good.pinned ∙ sym (pins-open_listing s.handles handle left absent))

-- ---- the file that is opened

-- a file that has a name stays, pinned or not
stays-alike : (names : Names) (pins : Pins) (n : ℕ) → is_named names n ≡ true → (number : ℕ)
    → (is_named names number || is_pinned (with_pin pins n) number) ≡ (is_named names number || is_pinned pins number)
stays-alike names pins n named number = by (number == n) refl
  where
    by : (b : Bool) → (number == n) ≡ b
        → (is_named names number || is_pinned (with_pin pins n) number)
        ≡ (is_named names number || is_pinned pins number)
    by true is =
        let held : is_named names number ≡ true = ap (is_named names) (eqb-true number n is) ∙ named in
        ap (λ b. b || is_pinned (with_pin pins n) number) held ∙ sym (ap (λ b. b || is_pinned pins number) held)
    by false is =
        let times : times_pinned (with_pin pins n) number ≡ one_if false + times_pinned pins number =
        pin-times pins n number ∙ ap (λ b. one_if b + times_pinned pins number) is in
        let same : times_pinned (with_pin pins n) number ≡ times_pinned pins number = omega (arith, times) in
        ap (λ often. is_named names number || nat_lt 0 often) same

-- so that it does not matter whether it is pinned before the files go that nothing holds, or after
pinned-late : (t : Tree) (n : ℕ) → is_named t.names n ≡ true
    → after_pin (trim t) n ≡ trim (record t { pins = with_pin t.pins n })
pinned-late t n named =
    λ i. record t {
      files = retain t.files (λ e. sym (stays-alike t.names t.pins n named e.0) i);
      pins = with_pin t.pins n;
    }

module _ (t : Tree) (path : List ℕ) (pflags : ℕ) (attrs : Attrs) (n : ℕ) where
  abbrev open_ask : Ask
  open_ask = asks.Open path pflags attrs

  -- the reply opens the file
  pub told-file : file_to t open_ask ≡ Some n → told_to t open_ask ≡ file (Some n)
  unfolding file_to told_to
  told-file = by (led t open_ask)
    where
      by : (end : Option (Result Place Cause))
          → led_to None end (λ place. number_of (told_at t open_ask place)) ≡ Some n
          → led_to done end (told_at t open_ask) ≡ file (Some n)
      by None is = absurd cc
      by (Some (Err cause)) is = absurd cc
      by (Some (Ok place)) is = ap file is

  -- it has a name
  pub named-opened : file_to t open_ask ≡ Some n
      → (place : Place) × (node_at (outcome t open_ask).names place ≡ Some (nodes.File n))
  unfolding file_to
  named-opened = by (led t open_ask) refl
    where
      by : (end : Option (Result Place Cause)) → led t open_ask ≡ end
          → led_to None end (λ place. number_of (told_at t open_ask place)) ≡ Some n
          → (place : Place) × (node_at (outcome t open_ask).names place ≡ Some (nodes.File n))
      by None leads is = absurd cc
      by (Some (Err cause)) leads is = absurd cc
      by (Some (Ok place)) leads is = (
        place,
        ap (λ (u : Tree). node_at u.names place) (outcome-is t open_ask (Some (Ok place)) None leads refl)
            ∙ opened-named t pflags attrs place (node_at t.names place) refl n is,
      )

  -- and exists
  pub file-opened : file_to t open_ask ≡ Some n → WellFormed (paths.after t open_ask)
      → HasFile (paths.after t open_ask).files n
  file-opened is well =
      let there = named-opened is in
      let end = paths.after t open_ask in
      each-get place_cmp place_cmp-same (λ e. IsNode end.files e.1) end.names there.0 (nodes.File n) well.nodes
      there.1

  pub pinned-opened : file_to t open_ask ≡ Some n
      → after_pin (paths.after t open_ask) n
      ≡ trim (record (outcome t open_ask) { pins = with_pin (outcome t open_ask).pins n })
  pinned-opened is =
      let there = named-opened is in
      pinned-late (outcome t open_ask) n (named-there (outcome t open_ask).names there.0 n there.1)

-- ---- few pins

fewer-kept : (keeps : List ℕ × Open → Bool) (handles : Handles) → length (filter keeps handles) ≤ length handles
fewer-kept keeps [] = omega arith
fewer-kept keeps (e ∷ es) = by (keeps e) (fewer-kept keeps es)
  where
    by : (b : Bool) → length (filter keeps es) ≤ length es
        → length (cond b (e ∷ filter keeps es) (filter keeps es)) ≤ length (e ∷ es)
    by true few = omega (arith, few)
    by false few = omega (arith, few)

times-few : (handles : Handles) (n : ℕ) → times_open handles n ≤ size handles
unfolding retain
times-few handles n = fewer-kept (λ e. opens_file n e.1) handles

-- a file is pinned at most as often as there are handles
pub few-pins : (s : State) (n : ℕ) → Good s → times_pinned s.tree.pins n < 2 ^ 32
few-pins s n good =
    let times : times_pinned s.tree.pins n ≡ times_open s.handles n =
    ap (λ pins. times_pinned pins n) good.pinned ∙ pins-times s.handles n in
    let often : times_open s.handles n ≤ size s.handles = times-few s.handles n in
    let few : size s.handles ≤ (limits s.tree).open_handles =
    leb-true (size s.handles) (limits s.tree).open_handles good.few in
    omega (arith, times, often, few, good.tree.well_formed.limits.open_handles.1)

-- ---- the steps

-- `NoRoom` does not hold where there is room
free-with_room : (set : CauseSet) (room : Bool) → is_none set ≡ true → room ≡ true
    → is_none (when set NoRoom (is_none set && not room)) ≡ true
unfolding when
free-with_room set room none is =
    let each = none-each set none in
    each-none (when set NoRoom (is_none set && not room))
    (λ c.
    (λ i. (only NoRoom c && (none i && not (is i))) || each c i) ∙ ap (λ b. b || false) (and-false (only NoRoom c)))

pub new-handle : (handles : Handles) (handle : List ℕ) → length handle ≤ handle_limit
    → open_at handles handle ≡ None → is_new_handle handles (replies.Handle handle) ≡ true
new-handle handles handle short absent =
    and_from (nat_le (length handle) handle_limit) (not (is_open handles handle))
    (le-leb (length handle) handle_limit short) (ap (λ o. not (is_some o)) absent)

-- the state after OPEN
module _ (s : State) (path : List ℕ) (pflags : ℕ) (attrs : Attrs) (n : ℕ) (handle : List ℕ) (good : Good s)
    (opened : file_to s.tree (asks.Open path pflags attrs) ≡ Some n) (short : length handle ≤ handle_limit)
    (absent : open_at s.handles handle ≡ None) (room : has_handle_left s ≡ true) where
  abbrev file_ask : Ask
  file_ask = asks.Open path pflags attrs

  abbrev with_file : Handles
  with_file = with_open s.handles handle (File n (kept_flags pflags))

  pins-file : with_pin (outcome s.tree file_ask).pins n ≡ pins_of with_file
  pins-file =
      ap (λ pins. with_pin pins n) (pins-stay s.tree file_ask ∙ good.pinned)
      ∙ sym (pins-open_file s.handles handle n (kept_flags pflags) absent)

  pub good-file : IsKept (after_pin (paths.after s.tree file_ask) n)
      → Good (state_of (after_pin (paths.after s.tree file_ask) n) with_file)
  good-file kept =
      good-new s handle (File n (kept_flags pflags)) good short absent room tt
      (after_pin (paths.after s.tree file_ask) n) kept (limits-stay s.tree file_ask) pins-file

  after-file : state_of (after_pin (paths.after s.tree file_ask) n) with_file ≡ after s file_ask (replies.Handle handle)
  unfolding after
  after-file =
      ap (λ t. state_of t with_file)
      (pinned-opened s.tree path pflags attrs n opened
      ∙ ap (λ pins. trim (record (outcome s.tree file_ask) { pins = pins })) pins-file)
      ∙ ap (λ told. settled (outcome s.tree file_ask)
      (with_new s.handles (opened_by pflags told) (replies.Handle handle)))
      (sym (told-file s.tree path pflags attrs n opened))

  pub does-file : is_none (paths.causes s.tree file_ask) ≡ true
      → Does s file_ask (replies.Handle handle) (state_of (after_pin (paths.after s.tree file_ask) n) with_file)
  unfolding causes answers
  does-file free = record {
    free = free-with_room (paths.causes s.tree file_ask) (has_handle_left s) free room;
    answered =
        ap (λ told. says (said_by s.handles told) (replies.Handle handle)) (told-file s.tree path pflags attrs n opened)
        ∙ new-handle s.handles handle short absent;
    changed = after-file;
  }

-- the state after OPENDIR
module _ (t : Tree) (path : List ℕ) where
  abbrev list_ask : Ask
  list_ask = asks.Opendir path

  -- the tree stays as it is
  outcome-listed : outcome t list_ask ≡ t
  unfolding outcome
  outcome-listed = by (led t list_ask)
    where
      by : (end : Option (Result Place Cause)) → outcome_led t list_ask end (new_led t list_ask) ≡ t
      by None = refl
      by (Some (Err cause)) = refl
      by (Some (Ok place)) = refl

  told-listing : (left : Left) → listing_to t list_ask ≡ Some left → told_to t list_ask ≡ listed left
  unfolding listing_to told_to
  told-listing left = by (led t list_ask)
    where
      by : (end : Option (Result Place Cause))
          → led_to None end (λ place. names_of (told_at t list_ask place)) ≡ Some left
          → led_to done end (told_at t list_ask) ≡ listed left
      by None is = absurd cc
      by (Some (Err cause)) is = absurd cc
      by (Some (Ok place)) is = ap listed (same_Some (listing t place) left is)

  -- what the listing gives at first can be given
  pub left-fits : (left : Left) → IsKept t → listing_to t list_ask ≡ Some left → IsLeft left
  unfolding listing_to
  left-fits left kept = by (led t list_ask)
    where
      by : (end : Option (Result Place Cause))
          → led_to None end (λ place. names_of (told_at t list_ask place)) ≡ Some left
          → IsLeft left
      by None is = absurd cc
      by (Some (Err cause)) is = absurd cc
      by (Some (Ok place)) is = subst IsLeft (same_Some (listing t place) left is) (listing-fits t kept place)

module _ (s : State) (path : List ℕ) (left : Left) (handle : List ℕ) (good : Good s)
    (opened : listing_to s.tree (asks.Opendir path) ≡ Some left) (short : length handle ≤ handle_limit)
    (absent : open_at s.handles handle ≡ None) (room : has_handle_left s ≡ true) where
  abbrev directory_ask : Ask
  directory_ask = asks.Opendir path

  abbrev with_listing : Handles
  with_listing = with_open s.handles handle (Listing left)

  settled-listing : state_of s.tree with_listing ≡ settled s.tree with_listing
  settled-listing =
      let pins : s.tree.pins ≡ pins_of with_listing =
      good.pinned ∙ sym (pins-open_listing s.handles handle left absent) in
      ap (λ t. state_of t with_listing)
      (sym (trimmed-already s.tree good.tree.trimmed)
      ∙ ap (λ pins. trim (record s.tree { pins = pins })) pins)

  after-listing : state_of s.tree with_listing ≡ after s directory_ask (replies.Handle handle)
  unfolding after
  after-listing =
      settled-listing
      ∙ (λ i. settled (sym (outcome-listed s.tree path) i)
      (with_new s.handles (opened_by 0 (sym (told-listing s.tree path left opened) i)) (replies.Handle handle)))

  pub does-listing : is_none (paths.causes s.tree directory_ask) ≡ true
      → Does s directory_ask (replies.Handle handle) (state_of s.tree with_listing)
  unfolding causes answers
  does-listing free = record {
    free = free-with_room (paths.causes s.tree directory_ask) (has_handle_left s) free room;
    answered =
        ap (λ told. says (said_by s.handles told) (replies.Handle handle)) (told-listing s.tree path left opened)
        ∙ new-handle s.handles handle short absent;
    changed = after-listing;
  }

-- ---- refusals

-- a cause that holds of a request that opens something in the tree holds in the session
in-room : (s : State) (set : CauseSet) (cause : Cause) → set cause ≡ true
    → when set NoRoom (is_none set && not (has_handle_left s)) cause ≡ true
unfolding when
in-room s set cause holds = or_right (only NoRoom cause && (is_none set && not (has_handle_left s))) (set cause) holds

pub refused-file : (s : State) (t : Tree) (path : List ℕ) (pflags : ℕ) (attrs : Attrs) (refused : Refused)
    → t ≡ s.tree → refusals_of.IsRefusal t (asks.Open path pflags attrs) refused
    → IsRefusal s (asks.Open path pflags attrs) refused
unfolding causes
refused-file s t path pflags attrs (refusals.Cause cause) same holds =
    in-room s (paths.causes s.tree (asks.Open path pflags attrs)) cause
    (ap (λ t. paths.causes t (asks.Open path pflags attrs) cause) (sym same) ∙ holds)
refused-file s t path pflags attrs refusals.NoMemory same holds = tt

pub refused-listing : (s : State) (t : Tree) (path : List ℕ) (refused : Refused)
    → t ≡ s.tree → refusals_of.IsRefusal t (asks.Opendir path) refused → IsRefusal s (asks.Opendir path) refused
unfolding causes
refused-listing s t path (refusals.Cause cause) same holds =
    in-room s (paths.causes s.tree (asks.Opendir path)) cause
    (ap (λ t. paths.causes t (asks.Opendir path) cause) (sym same) ∙ holds)
refused-listing s t path refusals.NoMemory same holds = tt

-- ---- OPEN, by what its calls returned

module _ (s : State) (path : List ℕ) (pflags : ℕ) (attrs : Attrs) (n : ℕ) (opened pinned : Tree)
    (reserved handles : Handles) (handle name : List ℕ) (flags : OpenFlags) (good : Good s)
    (short : length handle ≤ handle_limit) (absent : open_at s.handles handle ≡ None)
    (room : has_handle_left s ≡ true) (number : file_to s.tree (asks.Open path pflags attrs) ≡ Some n)
    (after_it : opened ≡ paths.after s.tree (asks.Open path pflags attrs)) (pin : pinned ≡ after_pin opened n)
    (kept : reserved ≡ s.handles) (same : handle ≡ name) (flags_are : flags ≡ kept_flags pflags)
    (put : handles ≡ with_open reserved name (File n flags)) where
  end-is : state_of pinned handles
      ≡ state_of (after_pin (paths.after s.tree (asks.Open path pflags attrs)) n)
      (with_open s.handles handle (File n (kept_flags pflags)))
  end-is =
      let whole : handles ≡ with_open s.handles handle (File n (kept_flags pflags)) =
      put ∙ (λ i. with_open (kept i) (sym same i) (File n (flags_are i))) in
      let tree : pinned ≡ after_pin (paths.after s.tree (asks.Open path pflags attrs)) n =
      pin ∙ ap (λ t. after_pin t n) after_it in
      λ i. record { tree = tree i; handles = whole i }

  pub opened-end : IsKept pinned → is_none (paths.causes s.tree (asks.Open path pflags attrs)) ≡ true
      → Good (state_of pinned handles)
      × Does s (asks.Open path pflags attrs) (replies.Handle handle) (state_of pinned handles)
  opened-end is_kept free = (
    subst Good (sym end-is)
        (good-file s path pflags attrs n handle good number short absent room
        (subst IsKept (ap (λ (x : State). x.tree) end-is) is_kept)),
    subst (Does s (asks.Open path pflags attrs) (replies.Handle handle)) (sym end-is)
        (does-file s path pflags attrs n handle good number short absent room free),
  )

-- ---- OPENDIR, by what opening the listing returned

pub listed-ok : {V E : Type 0} (s end : State) (path : List ℕ) (left : Left) (result : Result V E)
    (items : V → List ℕ) → Good s → listing_to s.tree (asks.Opendir path) ≡ Some left → has_handle_left s ≡ true
    → is_none (paths.causes s.tree (asks.Opendir path)) ≡ true
    → IfOk result (λ v. open_at s.handles (items v) ≡ None)
    → IfOk result (λ v. end ≡ state_of s.tree (with_open s.handles (items v) (Listing left)))
    → IfOk result (λ v. length (items v) ≤ handle_limit)
    → IfOk result (λ v. Does s (asks.Opendir path) (replies.Handle (items v)) end)
listed-ok s end path left (Ok v) items good opened room free absent is short =
    subst (Does s (asks.Opendir path) (replies.Handle (items v))) (sym is)
    (does-listing s path left (items v) good opened short absent room free)
listed-ok s end path left (Err e) items good opened room free absent is short = tt

-- ---- the parts of a session

module _ {V E : Type 0} (s : State) (left : Left) (now : Handles) (result : Result V E) (items : V → List ℕ) where
  -- what is open, once a listing was opened or nothing was, is that of a good state
  pub good-either : Good s → IsLeft left → has_handle_left s ≡ true
      → IfOk result (λ v. open_at s.handles (items v) ≡ None)
      → IfOk result (λ v. now ≡ with_open s.handles (items v) (Listing left))
      → IfOk result (λ v. length (items v) ≤ handle_limit) → OnErr result (now ≡ s.handles)
      → Good (state_of s.tree now)
  good-either good is_left room = by result
    where
      by : (r : Result V E) → IfOk r (λ v. open_at s.handles (items v) ≡ None)
          → IfOk r (λ v. now ≡ with_open s.handles (items v) (Listing left))
          → IfOk r (λ v. length (items v) ≤ handle_limit) → OnErr r (now ≡ s.handles)
          → Good (state_of s.tree now)
      by (Ok v) absent is short none =
          subst (λ (h : Handles). Good (state_of s.tree h)) (sym is) (good-listed s (items v) left good short absent
          room is_left)
      by (Err e) absent is short none = subst (λ (h : Handles). Good (state_of s.tree h)) (sym none) good

-- a tree and what is open on it make a state
pub on-tree : {V E : Type 0} (t : Tree) (before now : Handles) (left : Left) (result : Result V E)
    (items : V → List ℕ) → IfOk result (λ v. now ≡ with_open before (items v) (Listing left))
    → IfOk result (λ v. state_of t now ≡ state_of t (with_open before (items v) (Listing left)))
on-tree t before now left (Ok v) items is = ap (state_of t) is
on-tree t before now left (Err e) items is = tt

-- where neither changed, neither did the state
pub unchanged-parts : {V E : Type 0} (s : State) (before now : Tree) (open_before open_now : Handles)
    (result : Result V E) → state_of before open_before ≡ s → OnErr result (now ≡ before)
    → OnErr result (open_now ≡ open_before) → OnErr result (state_of now open_now ≡ s)
unchanged-parts s before now open_before open_now (Ok v) is same closed = tt
unchanged-parts s before now open_before open_now (Err e) is same closed =
    ap (λ (t : Tree). state_of t open_now) same ∙ (ap (state_of before) closed ∙ is)
