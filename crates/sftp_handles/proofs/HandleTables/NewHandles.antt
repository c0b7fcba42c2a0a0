-- What a request that opens something opens, if no cause refuses it.
use Rattle.sftp_handles.proofs.Imports.{◌≡◌, ◌||◌, not, ℕ, Bool, true, false, List, Option, Some, None, Result, Ok}
use Rattle.sftp_handles.proofs.Imports.{Err, refl, ap, sym, ◌∙◌, IsTrue, both_ways, same_Some, Attrs, Ask, Place}
use Rattle.sftp_handles.proofs.Imports.{Node, Cause, Exists, IsDir, Tree, IsKept, node_at, is_link, reached}
use Rattle.sftp_handles.proofs.Imports.{no_causes, when, is_none, opening_causes, excludes, listing, done, led}
use Rattle.sftp_handles.proofs.Imports.{led_to, new_led, told_at, outcome, IsFree, free-led, free-at, lost-first}
use Rattle.sftp_handles.proofs.Imports.{Open, Opened, File, Listing, kept_flags, State, Good, settled, has_handle_left}
use Rattle.sftp_handles.proofs.Imports.{causes, after, told_to, flags_of, opened_by, with_new, is_opening, IsOpenedBy}
use Rattle.sftp_handles.proofs.Imports.{◌&&◌, nat_le, bytes_cmp, size, size-put, TreeLimits, NoRoom, fits, limits}
use Rattle.sftp_handles.proofs.Imports.{CauseSet, none-each, limits-stay, open_at, with_open, handles_fit, state_fits}
use Rattle.sftp_handles.proofs.Imports.{with_handle_room, asked_state, ◌<◌, ◌+◌, arith, leb-true, cond, drop, length}
use Rattle.sftp_handles.proofs.Imports.{subst, is_eq, Equal-is, nat_list_cmp_total, NameItem, Name, InOrder}
use Rattle.sftp_handles.proofs.Imports.{bytes_cmp-same, get-put, InOrder-put, same_table, Left, Handles, names_in}
use Rattle.sftp_handles.proofs.Imports.{struck, IsListing, with_struck, first_items, AreFirstNames, AreFirst}
use Rattle.sftp_packets.specs.declared.requests.Ask.TheVariants as asks
use Rattle.sftp_packets.specs.declared.replies.Answer.TheVariants as replies
use Rattle.sftp_tree.specs.declared.nodes.Node.TheVariants as nodes
use Rattle.sftp_tree.specs.Requests.{number_at, file, plain_causes, causes as tree_causes}
use Rattle.sftp_tree.specs.Requests as paths
use Rattle.sftp_handles.proofs.Good.{room-of}
use Rattle.sftp_handles.proofs.Good.Pins.{state_of}
use Rattle.sftp_treefile.specs.TreeFile.{most_limits}
use Rattle.sftp_listing.proofs.FirstNames.{struck-first_items}
use Rattle.sftp_handles.specs.Slots.{first_names}
use Rattle.sftp_listing.proofs.FirstNames.{items-counted}

-- a walk that follows a last link leads to no link
abbrev pub LeadsToNoLink : Type 0
LeadsToNoLink = (t : Tree) (path : List ℕ) (place : Place) → IsKept t → reached t true path ≡ Ok place
    → is_link (node_at t.names place) ≡ false

-- a request that no cause refuses leads somewhere
leads-somewhere : (t : Tree) (ask : Ask) (failed : Cause) → IsFree t ask → led t ask ≡ Some (Err failed) → ⊥
leads-somewhere t ask failed free leads =
    let none = (free-led t ask (Some (Err failed)) (new_led t ask) free leads refl).none failed in
    let one = lost-first t ask failed (new_led t ask) in
    cc

-- ---- the number of the file that is opened

neither : (b : Bool) → (b || false) ≡ false → b ≡ false
neither true none = none
neither false none = none

not-both : (b : Bool) → b ≡ false → not b ≡ false → ⊥
not-both true is other = both_ways true is refl
not-both false is other = both_ways true other refl

number-opened : (pflags : ℕ) (made : Tree) (found : Option Node) → opening_causes pflags found Exists ≡ false
    → opening_causes pflags found IsDir ≡ false → (excludes pflags ≡ false → is_link found ≡ false)
    → (n : ℕ) × (number_at made found ≡ Some n)
unfolding when no_causes
number-opened pflags made None exists directory link = (made.made, refl)
number-opened pflags made (Some (nodes.File number)) exists directory link = (number, refl)
number-opened pflags made (Some (nodes.Dir owner)) exists directory link =
    absurd (not-both (excludes pflags) (neither (excludes pflags) exists) (neither (not (excludes pflags)) directory))
number-opened pflags made (Some (nodes.Link linktarget)) exists directory link =
    absurd (both_ways true (link (neither (excludes pflags) exists)) refl)

module _ (no-link : LeadsToNoLink) (t : Tree) (kept : IsKept t) (path : List ℕ) (pflags : ℕ) (attrs : Attrs)
    (free : IsFree t (asks.Open path pflags attrs)) where
  not-linked : (place : Place) → led t (asks.Open path pflags attrs) ≡ Some (Ok place) → excludes pflags ≡ false
      → is_link (node_at t.names place) ≡ false
  unfolding led
  not-linked place leads plain =
      let follows = ap (λ b. reached t (not b) path) (sym plain) in
      no-link t path place kept (follows ∙ same_Some (reached t (not (excludes pflags)) path) (Ok place) leads)

  file-opened : (end : Option (Result Place Cause)) → led t (asks.Open path pflags attrs) ≡ end
      → (it : Opened) × (opened_by pflags (led_to done end (told_at t (asks.Open path pflags attrs))) ≡ Some it)
  unfolding led
  file-opened None leads = absurd cc
  file-opened (Some (Err failed)) leads = absurd (leads-somewhere t (asks.Open path pflags attrs) failed free leads)
  file-opened (Some (Ok place)) leads =
      let none = (free-at t (asks.Open path pflags attrs) place free leads refl).none in
      let given = number-opened pflags t (node_at t.names place) (none Exists) (none IsDir) (not-linked place leads) in
      (File given.0 (kept_flags pflags), ap (λ n. opened_by pflags (file n)) given.1)

listing-opened : (t : Tree) (path : List ℕ) → IsFree t (asks.Opendir path) → (end : Option (Result Place Cause))
    → led t (asks.Opendir path) ≡ end
    → (it : Opened) × (opened_by 0 (led_to done end (told_at t (asks.Opendir path))) ≡ Some it)
unfolding led
listing-opened t path free None leads = absurd cc
listing-opened t path free (Some (Err failed)) leads = absurd (leads-somewhere t (asks.Opendir path) failed free leads)
listing-opened t path free (Some (Ok place)) leads = (Listing (listing t place), refl)

something-opened : LeadsToNoLink → (s : State) (ask : Ask) → Good s → IsTrue (is_opening ask)
    → IsTrue (is_none (causes s ask)) → (it : Opened) × (opened_by (flags_of ask) (told_to s.tree ask) ≡ Some it)
unfolding causes told_to
something-opened no-link s (asks.Open path pflags attrs) good opening free =
    let is_free = (room-of (paths.causes s.tree (asks.Open path pflags attrs)) (has_handle_left s) free).0 in
    file-opened no-link s.tree good.tree path pflags attrs is_free (led s.tree (asks.Open path pflags attrs)) refl
something-opened no-link s (asks.Opendir path) good opening free =
    let is_free = (room-of (paths.causes s.tree (asks.Opendir path)) (has_handle_left s) free).0 in
    listing-opened s.tree path is_free (led s.tree (asks.Opendir path)) refl
something-opened no-link s other good opening free = absurd cc

-- ---- the state after it

opened-after : (s : State) (ask : Ask) (handle : List ℕ) (it : Opened) → IsTrue (is_opening ask)
    → opened_by (flags_of ask) (told_to s.tree ask) ≡ Some it
    → IsOpenedBy s ask handle it
unfolding after
opened-after s (asks.Open path pflags attrs) handle it opening is =
    ap (λ o. settled (outcome s.tree (asks.Open path pflags attrs)) (with_new s.handles o (replies.Handle handle))) is
opened-after s (asks.Opendir path) handle it opening is =
    ap (λ o. settled (outcome s.tree (asks.Opendir path)) (with_new s.handles o (replies.Handle handle))) is
opened-after s other handle it opening is = absurd cc

pub handle-opens : LeadsToNoLink → (s : State) (ask : Ask) (handle : List ℕ) → Good s → IsTrue (is_opening ask)
    → IsTrue (is_none (causes s ask)) → (it : Opened) × IsOpenedBy s ask handle it
handle-opens no-link s ask handle good opening free =
    let given = something-opened no-link s ask good opening free in
    (given.0, opened-after s ask handle given.0 opening given.1)

-- ==== Room for a new handle, and the limits of a state.

-- one more handle may be opened exactly if the handles with a new one are not too many
pub left-fits : (s : State) (handle : List ℕ) (it : Opened) → open_at s.handles handle ≡ None
    → has_handle_left s ≡ handles_fit (state_of s.tree (with_open s.handles handle it))
left-fits s handle it absent =
    ap (λ n. nat_le n (limits s.tree).open_handles) (sym (size-put bytes_cmp s.handles handle it absent))

-- the causes of a request that opens something, by those other than `NoRoom`
abbrev with_both : CauseSet → Bool → Bool → CauseSet
with_both plain fit left =
    let set = when plain NoRoom (is_none plain && not fit) in when set NoRoom (is_none set && not left)

no-room : (fit left : Bool) → with_both (λ cause. false) fit left NoRoom ≡ not (fit && left)
unfolding when
no-room true true = refl
no-room true false = refl
no-room false true = refl
no-room false false = refl

none-is : (plain : CauseSet) → IsTrue (is_none plain) → plain ≡ (λ cause. false)
none-is plain none = λ i cause. none-each plain none cause i

opening-room : (s : State) (ask : Ask) → IsTrue (is_none (plain_causes s.tree ask))
    → with_handle_room s (tree_causes s.tree ask) NoRoom ≡ not (fits (outcome s.tree ask) && has_handle_left s)
unfolding tree_causes
opening-room s ask none =
    ap (λ plain. with_both plain (fits (outcome s.tree ask)) (has_handle_left s) NoRoom)
    (none-is (plain_causes s.tree ask) none)
    ∙ no-room (fits (outcome s.tree ask)) (has_handle_left s)

fits-asked : (s : State) (ask : Ask) (handle : List ℕ) (it : Opened) → open_at s.handles handle ≡ None
    → not (fits (outcome s.tree ask) && has_handle_left s) ≡ not (state_fits (asked_state s ask handle it))
fits-asked s ask handle it absent =
    ap (λ b. not (fits (outcome s.tree ask) && b))
    (left-fits s handle it absent
    ∙ ap (λ (bounds : TreeLimits). nat_le (size (with_open s.handles handle it)) bounds.open_handles)
    (sym (limits-stay s.tree ask)))

pub asked-room : (s : State) (ask : Ask) (handle : List ℕ) (it : Opened) → IsTrue (is_opening ask)
    → IsTrue (is_none (plain_causes s.tree ask)) → open_at s.handles handle ≡ None
    → causes s ask NoRoom ≡ not (state_fits (asked_state s ask handle it))
unfolding causes
asked-room s (asks.Open path pflags attrs) handle it opening none absent =
    opening-room s (asks.Open path pflags attrs) none ∙ fits-asked s (asks.Open path pflags attrs) handle it absent
asked-room s (asks.Opendir path) handle it opening none absent =
    opening-room s (asks.Opendir path) none ∙ fits-asked s (asks.Opendir path) handle it absent
asked-room s other handle it opening none absent = absurd cc

-- if one more may be opened, fewer are open than may be in any tree
pub few-handles : (s : State) → Good s → has_handle_left s ≡ true → size s.handles < most_limits.open_handles
few-handles s good room =
    let less = leb-true (size s.handles + 1) (limits s.tree).open_handles room in
    let most = good.tree.well_formed.limits.open_handles.1 in
    omega (arith, less, most)

-- ==== What is open under a handle, put back, and a listing of which names were struck.

same-there : (handles : Handles) (handle at : List ℕ) (it : Open) (b : Bool) → open_at handles handle ≡ Some it
    → is_eq (bytes_cmp at handle) ≡ b → cond b (Some it) (open_at handles at) ≡ open_at handles at
same-there handles handle at it true there same =
    sym there ∙ ap (open_at handles) (sym (bytes_cmp-same at handle ((Equal-is (bytes_cmp at handle)).0 same)))
same-there handles handle at it false there same = refl

-- what is open is put back
pub opened-back : (handles : Handles) (handle : List ℕ) (it : Open) → InOrder bytes_cmp handles
    → open_at handles handle ≡ Some it → with_open handles handle it ≡ handles
opened-back handles handle it order there =
    same_table bytes_cmp nat_list_cmp_total bytes_cmp-same (with_open handles handle it) handles
    (InOrder-put bytes_cmp nat_list_cmp_total handles handle it order) order
    (λ at.
    get-put bytes_cmp nat_list_cmp_total handles handle it at
    ∙ same-there handles handle at it (is_eq (bytes_cmp at handle)) there refl)

-- names were struck from a listing that was lent
pub struck-lent : (before after : Handles) (handle : List ℕ) (names : List Name) (left next : Left)
    → open_at before handle ≡ Some (Listing left) → next ≡ struck left names
    → after ≡ with_open before handle (Listing next)
    → after ≡ with_struck before handle names (open_at before handle)
struck-lent before after handle names left next there struck_is lent =
    lent
    ∙ (ap (λ left. with_open before handle (Listing left)) struck_is
    ∙ ap (with_struck before handle names) (sym there))

-- the first names of a listing were taken from it
module _ (items : List NameItem) (longnames : List Name) (left next : Left) (found : Option Open)
    (there : found ≡ Some (Listing left)) (first : AreFirstNames (length longnames) found longnames)
    (given : items ≡ first_items (length longnames) left) where
  are_names : longnames ≡ first_names (length longnames) left
  are_names = subst (λ o. AreFirstNames (length longnames) o longnames) there first

  pub first-taken : AreFirst (length longnames) found items
  first-taken = subst (λ o. AreFirst (length longnames) o items) (sym there) given

  pub first-counted : length items ≡ length longnames
  first-counted = ap length given ∙ items-counted (length longnames) longnames left are_names

  -- as many entries are dropped
  pub first-struck : IsListing found → next ≡ drop (length longnames) left → next ≡ struck left (names_in items)
  first-struck order dropped =
      dropped
      ∙ (ap (λ count. drop count left) (sym first-counted ∙ ap length given)
      ∙ (sym (struck-first_items (length longnames) left (subst IsListing there order))
      ∙ ap (λ xs. struck left (names_in xs)) (sym given)))
