-- READDIR: the names that its reply gives, and its end.
use Rattle.sftp_handles.proofs.Imports.{◌≡◌, ◌&&◌, not, nat_le, ℕ, Bool, true, false, List, length, Some, None}
use Rattle.sftp_handles.proofs.Imports.{Result, Ok, Err, refl, sym, ap, subst, ◌∙◌, IfOk, OnErr, and-false, Ask}
use Rattle.sftp_handles.proofs.Imports.{Answer, Handle, handle_limit, asked_handle, Place, Cause, Tree, reached}
use Rattle.sftp_handles.proofs.Imports.{is_none, done, led, led_to, new_led, told_at, follows, IsFree, free-led}
use Rattle.sftp_handles.proofs.Imports.{lost-first, Handles, is_open, State, has_handle_left, refuses, is_new_handle}
use Rattle.sftp_handles.proofs.Imports.{causes, said_to, said_by, told_to, Does, IsJudged, refusal_code, purpose_of}
use Rattle.sftp_handles.proofs.Imports.{nat_lt, [], ◌∷◌, Option, ◌↔◌, and_parts, NameItem, Status, bytes_cmp, get}
use Rattle.sftp_handles.proofs.Imports.{bytes_cmp-same, no_causes, when, limits, each-get, Open, File, Listing, Left}
use Rattle.sftp_handles.proofs.Imports.{open_at, with_open, Good, IsHandle, IsLeft, settled, a_listing, seen}
use Rattle.sftp_handles.proofs.Imports.{seen_among, names_in, names_given, are_some_left, gives_some, has_code, says}
use Rattle.sftp_handles.proofs.Imports.{struck, row_of, causes_of, said_of, change_of, answers, after, changed}
use Rattle.sftp_handles.proofs.Imports.{IsJudgedCode, IsListing, gives_names, with_struck, Readdir}
use Rattle.sftp_packets.specs.declared.requests.Ask.TheVariants as asks
use Rattle.sftp_tree.specs.declared.causes.Refused.TheVariants as refusals
use Rattle.sftp_tree.specs.Requests as paths
use Rattle.sftp_handles.specs.Replies.{opens}
use Rattle.sftp_handles.specs.declared.requests.Purpose.TheVariants as purposes
use Rattle.sftp_handles.specs.declared.not_opened.NotOpened.{NotOpened}
use Rattle.sftp_handles.specs.declared.not_opened.NotOpened.TheVariants.{Taken, Refused}
use Rattle.sftp_handles.specs.Opening.{IsNotOpened, not_opened}
use Rattle.sftp_handles.proofs.Good.{room-of}
use Rattle.sftp_handles.proofs.Judged.{answers-said, unlike, not-allowed, judged-none, judged-refused}
use Rattle.sftp_handles.proofs.Judged.{judged-done, allow-one}
use Rattle.sftp_packets.specs.declared.replies.Answer.TheVariants.{Name}
use Rattle.sftp_path.specs.Place as places
use Rattle.sftp_handles.specs.Slots.{listing_in}
use Rattle.sftp_handles.proofs.Good.Pins.{pins-listing_again}
use Rattle.sftp_handles.proofs.Good.{left-struck, good-listing}
use Rattle.sftp_handles.proofs.Good.Pins.{state_of, settled-already}
use Rattle.sftp_listing.proofs.FirstNames.{struck-none}
use Rattle.sftp_handles.proofs.HandleTables.NewHandles.{opened-back}

-- ==== Which requests a HANDLE answers: those that open something, by a handle that is new.

-- ---- what the reply to a request that opens something says

led-nowhere : (t : Tree) (ask : Ask) (failed : Cause) → led t ask ≡ Some (Err failed) → IsFree t ask → ⊥
led-nowhere t ask failed leads free =
    let none = (free-led t ask (Some (Err failed)) (new_led t ask) free leads refl).none failed in
    let one = lost-first t ask failed (new_led t ask) in
    cc

path-opens : (s : State) (ask : Ask) (end : Result Place Cause) → led s.tree ask ≡ Some end → IsFree s.tree ask
    → ((place : Place) → said_by s.handles (told_at s.tree ask place) ≡ opens s.handles)
    → said_by s.handles (told_to s.tree ask) ≡ opens s.handles
unfolding told_to
path-opens s ask (Ok place) leads free each =
    ap (λ end. said_by s.handles (led_to done end (told_at s.tree ask))) leads ∙ each place
path-opens s ask (Err failed) leads free each = absurd (led-nowhere s.tree ask failed leads free)

pub opens-said : (s : State) (ask : Ask) → purpose_of ask ≡ purposes.Open → is_none (causes s ask) ≡ true
    → said_to s ask (asked_handle ask) ≡ opens s.handles
unfolding causes led
opens-said s (asks.Open path pflags attrs) is free =
    path-opens s (asks.Open path pflags attrs) (reached s.tree (follows (asks.Open path pflags attrs)) path) refl
    (room-of (paths.causes s.tree (asks.Open path pflags attrs)) (has_handle_left s) free).0 (λ place. refl)
opens-said s (asks.Opendir path) is free =
    path-opens s (asks.Opendir path) (reached s.tree true path) refl
    (room-of (paths.causes s.tree (asks.Opendir path)) (has_handle_left s) free).0 (λ place. refl)
opens-said s other is free = absurd cc

-- one more handle may be opened
opens-room : (s : State) (ask : Ask) → purpose_of ask ≡ purposes.Open → is_none (causes s ask) ≡ true
    → has_handle_left s ≡ true
unfolding causes
opens-room s (asks.Open path pflags attrs) is free =
    (room-of (paths.causes s.tree (asks.Open path pflags attrs)) (has_handle_left s) free).1
opens-room s (asks.Opendir path) is free =
    (room-of (paths.causes s.tree (asks.Opendir path)) (has_handle_left s) free).1
opens-room s other is free = absurd cc

-- ---- answers

-- an answer that gives no new handle
judged-old : (s : State) (ask : Ask) (answer : Answer) → purpose_of ask ≡ purposes.Open
    → refuses (causes s ask) answer ≡ false
    → (is_none (causes s ask) ≡ true → is_new_handle s.handles answer ≡ false) → IsJudged s ask answer false s
judged-old s ask answer is other old =
    judged-none s ask answer
    (not-allowed s ask answer other
    (λ free. answers-said s ask (opens s.handles) answer (opens-said s ask is free) ∙ old free))

no-handle : (handles : Handles) (answer : Answer) → ((name : List ℕ) → answer ≡ Handle name → ⊥)
    → is_new_handle handles answer ≡ false
no-handle handles (Handle name) other = absurd (other name refl)
no-handle handles answer other = refl

pub judged-no_handle : (s : State) (ask : Ask) (answer : Answer) → purpose_of ask ≡ purposes.Open
    → refusal_code answer ≡ None → ((name : List ℕ) → answer ≡ Handle name → ⊥) → IsJudged s ask answer false s
judged-no_handle s ask answer is code other =
    judged-old s ask answer is (unlike s ask answer code) (λ free. no-handle s.handles answer other)

not-both : (a b : Bool) → (a && b) ≡ false → b ≡ true → a ≡ false
not-both true b is holds = absurd (let clash : true ≡ false = sym holds ∙ is in cc)
not-both false b is holds = refl

-- the name is too long, or no more handles may be opened
pub judged-lacking : (s : State) (ask : Ask) (handle : List ℕ) → purpose_of ask ≡ purposes.Open
    → (nat_le (length handle) handle_limit && has_handle_left s) ≡ false → IsJudged s ask (Handle handle) false s
judged-lacking s ask handle is lacks =
    judged-old s ask (Handle handle) is refl
    (λ free.
    ap (λ b. b && not (is_open s.handles handle))
    (not-both (nat_le (length handle) handle_limit) (has_handle_left s) lacks (opens-room s ask is free)))

-- the name is open
judged-taken : (s : State) (ask : Ask) (handle : List ℕ) → purpose_of ask ≡ purposes.Open
    → is_open s.handles handle ≡ true → IsJudged s ask (Handle handle) false s
judged-taken s ask handle is taken =
    judged-old s ask (Handle handle) is refl
    (λ free.
    ap (λ b. nat_le (length handle) handle_limit && not b) taken ∙ and-false (nat_le (length handle) handle_limit))

-- a handle of the name that was wanted
pub judged-opened : (s : State) (ask : Ask) (given wanted handle : List ℕ) (end : State) → given ≡ wanted
    → wanted ≡ handle → Does s ask (Handle given) end → IsJudged s ask (Handle handle) true end
judged-opened s ask given wanted handle end is_wanted is_handle does =
    judged-done s ask (Handle handle) end (subst (λ h. Does s ask (Handle h) end) (is_wanted ∙ is_handle) does)

-- nothing was opened
pub judged-failed : (s : State) (ask : Ask) (wanted handle : List ℕ) (end : State) (failed : NotOpened)
    → purpose_of ask ≡ purposes.Open → wanted ≡ handle → IsNotOpened s ask wanted failed → end ≡ s
    → IfOk (not_opened failed) (λ ok. IsJudged s ask (Handle handle) ok end)
judged-failed s ask wanted handle end Taken is is_handle taken kept =
    subst (IsJudged s ask (Handle handle) false) (sym kept)
    (judged-taken s ask handle is (ap (is_open s.handles) (sym is_handle) ∙ taken))
judged-failed s ask wanted handle end (Refused (refusals.Cause cause)) is is_handle holds kept =
    subst (IsJudged s ask (Handle handle) false) (sym kept) (judged-refused s ask (Handle handle) cause holds refl)
judged-failed s ask wanted handle end (Refused refusals.NoMemory) is is_handle holds kept = tt

-- what holds at any rate holds on an error
pub held : {A E P : Type 0} (result : Result A E) → P → OnErr result P
held (Ok value) p = tt
held (Err e) p = p

-- ---- what is open under the handle

-- a listing in a good state
pub listing-left : (s : State) (handle : List ℕ) (left : Left) → Good s
    → open_at s.handles handle ≡ Some (Listing left) → IsLeft left
listing-left s handle left good there =
    (each-get bytes_cmp bytes_cmp-same IsHandle s.handles handle (Listing left) good.handles there).1

-- an empty listing gives no names
none-left : (items : List NameItem) → are_some_left [] items ≡ false
unfolding get
none-left [] = refl
none-left (item ∷ items) = and-false (nat_lt 0 (length (item ∷ items)))

-- no cause holds, and the names answer
free-given : (s : State) (handle : List ℕ) (items : List NameItem) (found : Option Open)
    → (is_none (causes_of s.tree (row_of (Readdir handle)) (seen_among s.tree.files a_listing found))
    && says (said_of (limits s.tree) (row_of (Readdir handle)) (seen_among s.tree.files a_listing found)) (Name items))
    ≡ gives_names found items
unfolding when no_causes
free-given s handle items None = refl
free-given s handle items (Some (File number flags)) = refl
free-given s handle items (Some (Listing [])) = sym (none-left items)
free-given s handle items (Some (Listing (e ∷ es))) = refl

readdir-given : (s : State) (handle : List ℕ) (items : List NameItem)
    → (is_none (causes s (Readdir handle)) && answers s (Readdir handle) (Name items))
    ≡ gives_names (open_at s.handles handle) items
unfolding causes answers seen
readdir-given s handle items = free-given s handle items (open_at s.handles handle)

readdir-after : (s : State) (handle : List ℕ) (left : Left) (answer : Answer)
    → open_at s.handles handle ≡ Some (Listing left)
    → after s (Readdir handle) answer
    ≡ settled s.tree (with_open s.handles handle (Listing (struck left (names_given answer))))
unfolding after seen
readdir-after s handle left answer there =
    ap
    (λ found. changed s handle (change_of (row_of (Readdir handle)) (seen_among s.tree.files a_listing found) answer))
    there

-- ---- the state after

-- a listing pins no file
settled-listing : (s : State) (handle : List ℕ) (before left : Left) → Good s
    → open_at s.handles handle ≡ Some (Listing before)
    → settled s.tree (with_open s.handles handle (Listing left))
    ≡ state_of s.tree (with_open s.handles handle (Listing left))
settled-listing s handle before left good there =
    settled-already s.tree (with_open s.handles handle (Listing left)) good.tree
    (good.pinned ∙ sym (pins-listing_again s.handles handle before left good.ordered there))

-- the state in which the names are struck
abbrev pub struck_state : State → List ℕ → List NameItem → State
struck_state s handle items =
    state_of s.tree (with_struck s.handles handle (names_in items) (open_at s.handles handle))

module _ (s : State) (handle : List ℕ) (items : List NameItem) (good : Good s) where
  -- it is the state after the reply
  after-struck : (found : Option Open) → open_at s.handles handle ≡ found → gives_names found items ≡ true
      → after s (Readdir handle) (Name items) ≡ state_of s.tree (with_struck s.handles handle (names_in items) found)
  after-struck None there gives = absurd cc
  after-struck (Some (File number flags)) there gives = absurd cc
  after-struck (Some (Listing left)) there gives =
      readdir-after s handle left (Name items) there
      ∙ settled-listing s handle left (struck left (names_in items)) good there

  -- and it is good
  good-struck_in : (found : Option Open) → open_at s.handles handle ≡ found → gives_names found items ≡ true
      → Good (state_of s.tree (with_struck s.handles handle (names_in items) found))
  good-struck_in None there gives = absurd cc
  good-struck_in (Some (File number flags)) there gives = absurd cc
  good-struck_in (Some (Listing left)) there gives =
      subst Good (settled-listing s handle left (struck left (names_in items)) good there)
      (good-listing s handle left (struck left (names_in items)) good there
      (left-struck left (names_in items) (listing-left s handle left good there)))

  pub good-struck : gives_names (open_at s.handles handle) items ≡ true → Good (struck_state s handle items)
  good-struck gives = good-struck_in (open_at s.handles handle) refl gives

  -- the names are an allowed answer
  pub judged-given : gives_names (open_at s.handles handle) items ≡ true
      → IsJudged s (Readdir handle) (Name items) true (struck_state s handle items)
  judged-given gives =
      let parts = and_parts (is_none (causes s (Readdir handle))) (answers s (Readdir handle) (Name items))
      (readdir-given s handle items ∙ gives) in
      judged-done s (Readdir handle) (Name items) (struck_state s handle items)
      (record {
        free = parts.0;
        answered = parts.1;
        changed = sym (after-struck (open_at s.handles handle) refl gives);
      })

-- the code struck the names that the reply gives
module _ (s : State) (handle : List ℕ) (items : List NameItem) (given : List places.Name) (handles : Handles)
    (good : Good s) (gives : true ≡ gives_names (open_at s.handles handle) items) (same : given ≡ names_in items)
    (is : handles ≡ with_struck s.handles handle given (open_at s.handles handle)) where
  struck-is : struck_state s handle items ≡ state_of s.tree handles
  struck-is =
      ap (state_of s.tree)
      (ap (λ names. with_struck s.handles handle names (open_at s.handles handle)) (sym same) ∙ sym is)

  pub good-given : Good (state_of s.tree handles)
  good-given = subst Good struck-is (good-struck s handle items good (sym gives))

  pub given-judged : IsJudged s (Readdir handle) (Name items) true (state_of s.tree handles)
  given-judged =
      subst (IsJudged s (Readdir handle) (Name items) true) struck-is (judged-given s handle items good (sym gives))

-- they are none
pub judged-not_given : (s : State) (handle : List ℕ) (items : List NameItem)
    → gives_names (open_at s.handles handle) items ≡ false → IsJudged s (Readdir handle) (Name items) false s
judged-not_given s handle items none =
    judged-none s (Readdir handle) (Name items)
    (not-allowed s (Readdir handle) (Name items) refl
    (λ free.
    ap (λ b. b && answers s (Readdir handle) (Name items)) (sym free) ∙ (readdir-given s handle items ∙ none)))

-- an answer that gives no names, and does not say that there are none
free-unlisted : (s : State) (handle : List ℕ) (answer : Answer) (found : Option Open)
    → ((left : Left) → gives_some left answer ≡ false) → has_code 1 answer ≡ false
    → (is_none (causes_of s.tree (row_of (Readdir handle)) (seen_among s.tree.files a_listing found))
    && says (said_of (limits s.tree) (row_of (Readdir handle)) (seen_among s.tree.files a_listing found)) answer)
    ≡ false
unfolding when no_causes
free-unlisted s handle answer None none end = refl
free-unlisted s handle answer (Some (File number flags)) none end = refl
free-unlisted s handle answer (Some (Listing [])) none end = end
free-unlisted s handle answer (Some (Listing (e ∷ es))) none end = none (e ∷ es)

readdir-unlisted : (s : State) (handle : List ℕ) (answer : Answer)
    → ((left : Left) → gives_some left answer ≡ false) → has_code 1 answer ≡ false
    → (is_none (causes s (Readdir handle)) && answers s (Readdir handle) answer) ≡ false
unfolding causes answers seen
readdir-unlisted s handle answer none end = free-unlisted s handle answer (open_at s.handles handle) none end

gives-none : (answer : Answer) → ((items : List NameItem) → answer ≡ Name items → ⊥) → (left : Left)
    → gives_some left answer ≡ false
gives-none (Name items) other left = absurd (other items refl)
gives-none answer other left = refl

pub judged-unlisted : (s : State) (handle : List ℕ) (answer : Answer) → refusal_code answer ≡ None
    → has_code 1 answer ≡ false → ((items : List NameItem) → answer ≡ Name items → ⊥)
    → IsJudged s (Readdir handle) answer false s
judged-unlisted s handle answer code end other =
    judged-none s (Readdir handle) answer
    (not-allowed s (Readdir handle) answer (unlike s (Readdir handle) answer code)
    (λ free.
    ap (λ b. b && answers s (Readdir handle) answer) (sym free) ∙ readdir-unlisted s handle answer (gives-none answer other) end))

-- the names come from a listing, in order
listing-in : (s : State) (handle : List ℕ) (items : List NameItem) (found : Option Open) → Good s
    → open_at s.handles handle ≡ found → gives_names found items ≡ true → IsListing found
listing-in s handle items None good there gives = absurd cc
listing-in s handle items (Some (File number flags)) good there gives = absurd cc
listing-in s handle items (Some (Listing left)) good there gives = (listing-left s handle left good there).ordered

pub listing-found : (s : State) (handle : List ℕ) (items : List NameItem) → Good s
    → gives_names (open_at s.handles handle) items ≡ true → IsListing (open_at s.handles handle)
listing-found s handle items good gives = listing-in s handle items (open_at s.handles handle) good refl gives

-- ---- the end

-- whether a listing is open that has nothing left
abbrev pub has_none : Option Open → Bool
has_none (Some (Listing [])) = true
has_none (Some (Listing (e ∷ es))) = false
has_none (Some (File number flags)) = false
has_none None = false

pub none-if_empty : (ok : Bool) (left : Left) → ok ≡ true ↔ left ≡ [] → ok ≡ has_none (Some (Listing left))
none-if_empty true [] both = refl
none-if_empty false [] both = both.1 refl
none-if_empty true (e ∷ es) both = absurd (let none = both.0 refl in cc)
none-if_empty false (e ∷ es) both = refl

pub none-listed : (found : Option Open) → listing_in found ≡ None → false ≡ has_none found
none-listed None is = refl
none-listed (Some (File number flags)) is = refl
none-listed (Some (Listing left)) is = absurd cc

free-end : (s : State) (handle message language : List ℕ) (found : Option Open)
    → (is_none (causes_of s.tree (row_of (Readdir handle)) (seen_among s.tree.files a_listing found))
    && says (said_of (limits s.tree) (row_of (Readdir handle)) (seen_among s.tree.files a_listing found))
    (Status 1 message language))
    ≡ has_none found
unfolding when no_causes
free-end s handle message language None = refl
free-end s handle message language (Some (File number flags)) = refl
free-end s handle message language (Some (Listing [])) = refl
free-end s handle message language (Some (Listing (e ∷ es))) = refl

readdir-end : (s : State) (handle message language : List ℕ)
    → (is_none (causes s (Readdir handle)) && answers s (Readdir handle) (Status 1 message language))
    ≡ has_none (open_at s.handles handle)
unfolding causes answers seen
readdir-end s handle message language = free-end s handle message language (open_at s.handles handle)

after-end : (s : State) (handle message language : List ℕ) (found : Option Open) → Good s
    → open_at s.handles handle ≡ found → has_none found ≡ true
    → after s (Readdir handle) (Status 1 message language) ≡ s
after-end s handle message language None good there none = absurd cc
after-end s handle message language (Some (File number flags)) good there none = absurd cc
after-end s handle message language (Some (Listing (e ∷ es))) good there none = absurd cc
after-end s handle message language (Some (Listing [])) good there none =
    readdir-after s handle [] (Status 1 message language) there
    ∙ (settled-listing s handle [] (struck [] []) good there
    ∙ ap (state_of s.tree)
    (ap (λ left. with_open s.handles handle (Listing left)) (struck-none [])
    ∙ opened-back s.handles handle (Listing []) good.ordered there))

pub readdir-ends : (s : State) (handle : List ℕ) (ok : Bool) → Good s → ok ≡ has_none (open_at s.handles handle)
    → IsJudgedCode s (Readdir handle) 1 ok s
readdir-ends s handle true good is message language =
    let end = Status 1 message language in
    let parts = and_parts (is_none (causes s (Readdir handle))) (answers s (Readdir handle) end)
    (readdir-end s handle message language ∙ sym is) in
    judged-done s (Readdir handle) end s
    (record {
      free = parts.0;
      answered = parts.1;
      changed = sym (after-end s handle message language (open_at s.handles handle) good refl (sym is));
    })
readdir-ends s handle false good is message language =
    let end = Status 1 message language in
    judged-none s (Readdir handle) end
    (not-allowed s (Readdir handle) end (allow-one (causes s (Readdir handle)))
    (λ free.
    ap (λ b. b && answers s (Readdir handle) end) (sym free) ∙ (readdir-end s handle message language ∙ sym is)))
