-- What is proved request by request: each lemma has an equation for each request that differs from its last case.
use Rattle.sftp_tree.proofs.Imports.{◌≡◌, ℕ, Bool, true, false, ◌&&◌, not, List, refl, sym, ◌∙◌, ap, Option, Some}
use Rattle.sftp_tree.proofs.Imports.{None, IsTrue, Ok, not-false, or_parts, and-true, Attrs, IsAttrs, Ask, IsAsk}
use Rattle.sftp_tree.proofs.Imports.{Place, place_cmp, place_cmp-same, is_target, Content, Node, Dir, File, Link}
use Rattle.sftp_tree.proofs.Imports.{Cause, BadPath, NoEntry, Tree, WellFormed, IsKept, IsNode, fits, node_at}
use Rattle.sftp_tree.proofs.Imports.{content_at, is_taken, is_directory, is_link, directory_owner, changed_content}
use Rattle.sftp_tree.proofs.Imports.{no_causes, when, are_one, with_changed_file, with_emptied_file, has_room, subst}
use Rattle.sftp_tree.proofs.Imports.{[], rekeyed, Names, with_node, without_node, with_content, with_new_file}
use Rattle.sftp_tree.proofs.Imports.{absolute, are_bytes, is_file, excludes, reached, shown_to, text_to, file_to}
use Rattle.sftp_tree.proofs.Imports.{IsFree, stat_ask, HasNode, Name, Table, listing_to, listing, Plan, carried}
use Rattle.sftp_tree.proofs.Imports.{no_change, put_node, remove_node, move_node, own_directory, set_file, make_file}
use Rattle.sftp_tree.proofs.Imports.{empty_file, plan_to_name, CanDo, OwnsBy, ◌||◌, arith, if◌then◌else◌, Result, Err}
use Rattle.sftp_tree.proofs.Imports.{list_any, NoRoom, CauseSet, every_cause, is_none, has_room_for, rules, ◌≤◌}
use Rattle.sftp_tree.proofs.Imports.{nat_lt, inl, inr, ◌⊎◌, ◌↔◌, nat_cmp, both_ways, InOrder, InOrder-put}
use Rattle.sftp_tree.proofs.Imports.{times_named, times_pinned, is_pinned, is_held, trim, IsPlaceOf, IsPlanned}
use Rattle.sftp_tree.proofs.Imports.{AreAny, planned}
use Rattle.sftp_tree.specs.Requests.{has_room_at, has_room_between, IsFileAt}
use Rattle.std.specs.Option.{is_some, IfSome}
use Rattle.sftp_tree.specs.Requests.{led, new_led, causes_at, new_causes_at, causes_between, own_causes, plan_at}
use Rattle.sftp_tree.specs.Requests.{plan_between, plan_led, led_to, outcome, shown_at, target_of, number_at, path_of}
use Rattle.sftp_tree.specs.Requests.{new_path_of, causes, outcome_led, plain_of, after, follows}
use Rattle.sftp_tree.proofs.Limits.{fits-put, fits-without}
use Rattle.sftp_packets.specs.declared.requests.Ask.TheVariants as asks
use Rattle.sftp_tree.proofs.PlaceTables.{each-get}
use Rattle.sftp_tree.proofs.CauseLaws.{FreeAt, FreeBetween, free-at, plain-parts, lost-first, causes-are}
use Rattle.sftp_tree.proofs.CauseLaws.{free-led, free-between, outcome-is}
use Rattle.sftp_tree.proofs.CauseLaws.{free-place, file-place, link-place, directory-place, taken-place}
use Rattle.sftp_tree.proofs.CauseLaws.{may-leave, may-rename, set-room, open-room, move-room, exchange-room}
use Rattle.sftp_tree.proofs.Walks.Counts.{reached-unlinked}
use Rattle.sftp_tree.proofs.WellFormedTrees.{bytes-fit, owner-fits, file-owner-fits, changed-owner-fits}
use Rattle.sftp_tree.proofs.Requests.{can-remove-directory, can-remove-name, can-put, can-set, can-open}
use Rattle.sftp_tree.proofs.Requests.{can-move, can-exchange, can-name, opened-by}
use Rattle.sftp_tree.proofs.Requests.{Led, not-root, LeadsWell, led-of, led-well, well-plan}
use Rattle.sftp_tree.specs.declared.plans.Plan as code
use Rattle.std.proofs.lemmas.Cmp.{nat_cmp_total}
use Rattle.sftp_tree.proofs.CauseLaws.{none-each}
use Rattle.sftp_tree.proofs.Limits.{Stands}
use Rattle.sftp_tree.proofs.KeptTrees.{kept-trim}
use Rattle.sftp_tree.proofs.KeptTrees.{content-left}

-- ---- values

pub path-bytes : (ask : Ask) → IsAsk ask → IfSome (path_of ask) (λ path. IsTrue (are_bytes path))
path-bytes (asks.Mkdir path attrs) fits = bytes-fit path fits.0
path-bytes (asks.Rmdir path) fits = bytes-fit path fits
path-bytes (asks.Remove path) fits = bytes-fit path fits
path-bytes (asks.Setstat path attrs) fits = bytes-fit path fits.0
path-bytes (asks.Stat path) fits = bytes-fit path fits
path-bytes (asks.Lstat path) fits = bytes-fit path fits
path-bytes (asks.Realpath path) fits = bytes-fit path fits
path-bytes (asks.Readlink path) fits = bytes-fit path fits
path-bytes (asks.Symlink target link) fits = bytes-fit link fits.1
path-bytes (asks.Rename oldpath newpath) fits = bytes-fit oldpath fits.0
path-bytes (asks.PosixRename oldpath newpath) fits = bytes-fit oldpath fits.0
path-bytes (asks.Hardlink oldpath newpath) fits = bytes-fit oldpath fits.0
path-bytes (asks.Open path flags attrs) fits = bytes-fit path fits.0
path-bytes (asks.Opendir path) fits = bytes-fit path fits
path-bytes other fits = tt

pub new-path-bytes : (ask : Ask) → IsAsk ask → IfSome (new_path_of ask) (λ path. IsTrue (are_bytes path))
new-path-bytes (asks.Rename oldpath newpath) fits = bytes-fit newpath fits.1
new-path-bytes (asks.PosixRename oldpath newpath) fits = bytes-fit newpath fits.1
new-path-bytes (asks.Hardlink oldpath newpath) fits = bytes-fit newpath fits.1
new-path-bytes other fits = tt

-- ---- room

good-target : (target link : List ℕ) → ((c : Cause) → own_causes (asks.Symlink target link) c ≡ false) → is_target target ≡ true
unfolding when no_causes
good-target target link none = not-false (is_target target) (or_parts (not (is_target target)) false (none BadPath)).0

pub room-at : (t : Tree) (ask : Ask) (place : Place) → IsKept t → ((c : Cause) → own_causes ask c ≡ false) → ((c : Cause) → causes_at t ask place c ≡ false) → has_room_at t ask place ≡ fits (carried t (plan_at t ask place))
room-at t (asks.Mkdir path attrs) place kept own none =
    sym (fits-put t place (Dir (directory_owner t attrs)) kept.within_limits (free-place (node_at t.names place) none) ∙ and-true (has_room t place))
room-at t (asks.Symlink target link) place kept own none =
    sym (fits-put t place (Link target) kept.within_limits (free-place (node_at t.names place) none) ∙ ap (λ b. has_room t place && b) (good-target target link own) ∙ and-true (has_room t place))
room-at t (asks.Rmdir path) place kept own none = sym (fits-without t place kept.within_limits)
room-at t (asks.Remove path) place kept own none = sym (fits-without t place kept.within_limits)
room-at t (asks.Setstat path attrs) place kept own none = set-room t attrs place (node_at t.names place) kept refl
room-at t (asks.Open path flags attrs) place kept own none = open-room t flags attrs place (node_at t.names place) kept refl
room-at t other place kept own none = sym kept.within_limits

pub room-between : (t : Tree) (ask : Ask) (old new : Place) → IsKept t → ((c : Cause) → causes_at t ask old c ≡ false) → ((c : Cause) → new_causes_at t ask new c ≡ false) → ((c : Cause) → causes_between t ask old new c ≡ false) → has_room_between t ask old new ≡ fits (carried t (plan_between t ask old new))
room-between t (asks.Rename oldpath newpath) old new kept here there both =
    let leave = may-leave t old here in
    move-room t old new kept leave
    (may-rename t old new kept.well_formed leave (free-place (node_at t.names new) there) both)
room-between t (asks.PosixRename oldpath newpath) old new kept here there both =
    exchange-room t old new (are_one t.names old new) refl kept (may-leave t old here) both
room-between t (asks.Hardlink oldpath newpath) old new kept here there both =
    let file = file-place (node_at t.names old) here in
    sym (ap (λ found. fits (carried t (plan_to_name found new))) file.1
    ∙ fits-put t new (File file.0) kept.within_limits (free-place (node_at t.names new) there) ∙ and-true (has_room t new))
room-between t other old new kept here there both = sym kept.within_limits

-- ---- what it asks for

-- a request asks for the tree, the tree with other names, with another content of a file, or with a new file
module _ (t : Tree) (P : Tree → Type 0) (same : P t) (renamed : (names : Names) → P (record t { names = names })) (changed : (number : ℕ) (before content : Content) → content_at t.files number ≡ Some before → P (record t { files = with_content t.files number content })) (made : (place : Place) (content : Content) → P (with_new_file t place content)) where
  by-file : (attrs : Attrs) (number : ℕ) (o : Option Content) → content_at t.files number ≡ o → P (with_changed_file t attrs number o)
  by-file attrs number None is = same
  by-file attrs number (Some content) is = changed number content (changed_content attrs content) is

  by-emptied : (number : ℕ) (o : Option Content) → content_at t.files number ≡ o → P (with_emptied_file t number o)
  by-emptied number None is = same
  by-emptied number (Some content) is = changed number content (record content { bytes = [] }) is

  by-plan : (plan : Plan) → P (carried t plan)
  by-plan no_change = same
  by-plan (put_node place it) = renamed (with_node t.names place it)
  by-plan (remove_node place) = renamed (without_node t.names place)
  by-plan (move_node old new) = renamed (rekeyed old new (without_node t.names new))
  by-plan (own_directory place owner) = renamed (with_node t.names place (Dir owner))
  by-plan (set_file number attrs) = by-file attrs number (content_at t.files number) refl
  by-plan (make_file place content) = made place content
  by-plan (empty_file number) = by-emptied number (content_at t.files number) refl

  pub by-outcome : (ask : Ask) → P (outcome t ask)
  unfolding outcome
  by-outcome ask = by-plan (plan_led t ask (led t ask) (new_led t ask))

-- ---- its plan

-- the values of the request
pub node-values : (t : Tree) (ask : Ask) (place : Place) → WellFormed t → IsAsk ask → HasNode IsAttrs t ask place
node-values t (asks.Mkdir path attrs) place well fits = owner-fits t attrs well fits.1
node-values t (asks.Symlink target link) place well fits = bytes-fit target fits.0
node-values t (asks.Setstat path attrs) place well fits = (fits.1, by (node_at t.names place) refl)
  where
    by : (o : Option Node) → node_at t.names place ≡ o → OwnsBy attrs o
    by (Some (Dir owner)) is = changed-owner-fits attrs owner fits.1
        (each-get place_cmp place_cmp-same (λ e. IsNode t.files e.1) t.names place (Dir owner) well.nodes is)
    by other is = tt
node-values t (asks.Open path flags attrs) place well fits = file-owner-fits t attrs well fits.1.1
node-values t other place well fits = tt

-- it can be carried out
module _ (P : Attrs → Type 0) (t : Tree) where
  pub can-at : (ask : Ask) (place : Place) → WellFormed t → Led t place → FreeAt t ask place → HasNode P t ask place
      → CanDo P t (plan_at t ask place)
  can-at (asks.Mkdir path attrs) place well leads free node =
      can-put t place (Dir (directory_owner t attrs)) leads (free-place (node_at t.names place) free.none) node free.room
  can-at (asks.Symlink target link) place well leads free node =
      can-put t place (Link target) leads (free-place (node_at t.names place) free.none) node free.room
  can-at (asks.Rmdir path) place well leads free node = can-remove-directory t place free.none
  can-at (asks.Remove path) place well leads free node = can-remove-name t place well free.none
  can-at (asks.Setstat path attrs) place well leads free node =
      can-set P t attrs place (node_at t.names place) refl free.room node.0 node.1
  can-at (asks.Open path flags attrs) place well leads free node =
      can-open P t flags attrs place (node_at t.names place) refl leads node free.room
  can-at other place well leads free node = tt

  pub can-between : (ask : Ask) (old new : Place) → WellFormed t → Led t new → FreeBetween t ask old new
      → CanDo P t (plan_between t ask old new)
  can-between (asks.Rename oldpath newpath) old new well leads free =
      let leave = may-leave t old free.at_old in
      let absent = free-place (node_at t.names new) free.at_new in
      can-move t old new leads leave (not-root t new well (ap is_directory absent))
      (may-rename t old new well leave absent free.between) free.room
  can-between (asks.PosixRename oldpath newpath) old new well leads free =
      can-exchange P t old new (are_one t.names old new) refl well leads free.at_old free.at_new free.between free.room
  can-between (asks.Hardlink oldpath newpath) old new well leads free =
      can-name P t old new (node_at t.names old) refl well leads (free-place (node_at t.names new) free.at_new) free.room
  can-between other old new well leads free = tt

-- only of a file is a name made
pub file-at : (t : Tree) (ask : Ask) (old new : Place) → FreeBetween t ask old new → IsFileAt t ask old
file-at t (asks.Hardlink oldpath newpath) old new free = ap is_file (file-place (node_at t.names old) free.at_old).1
file-at t other old new free = tt

-- ---- what replies say

pub stat-taken : (t : Tree) (given : Ask) (follow : Bool) (path : List ℕ) (place : Place) → given ≡ stat_ask follow path → IsFree t given → led t given ≡ Some (Ok place) → is_taken (node_at t.names place) ≡ true
stat-taken t given true path place is free leads =
    taken-place (node_at t.names place) ((free-at t (asks.Stat path) place (subst (IsFree t) is free) (subst (λ a. led t a ≡ Some (Ok place)) is leads) refl).none NoEntry)
stat-taken t given false path place is free leads =
    taken-place (node_at t.names place) ((free-at t (asks.Lstat path) place (subst (IsFree t) is free) (subst (λ a. led t a ≡ Some (Ok place)) is leads) refl).none NoEntry)

pub stat-shown : (t : Tree) (given : Ask) (follow : Bool) (path : List ℕ) (place : Place) (attrs : Attrs) → given ≡ stat_ask follow path → led t given ≡ Some (Ok place) → shown_at t (node_at t.names place) ≡ Some attrs → shown_to t (stat_ask follow path) ≡ Some attrs
unfolding shown_to
stat-shown t given true path place attrs is leads shows =
    ap (λ o. led_to None o (λ place. shown_at t (node_at t.names place))) (subst (λ a. led t a ≡ Some (Ok place)) is leads) ∙ shows
stat-shown t given false path place attrs is leads shows =
    ap (λ o. led_to None o (λ place. shown_at t (node_at t.names place))) (subst (λ a. led t a ≡ Some (Ok place)) is leads) ∙ shows

pub listed-directory : (t : Tree) (path : List ℕ) (place : Place) → IsFree t (asks.Opendir path)
    → led t (asks.Opendir path) ≡ Some (Ok place) → is_directory (node_at t.names place) ≡ true
listed-directory t path place free leads =
    directory-place (node_at t.names place) (free-at t (asks.Opendir path) place free leads refl).none

pub read-link : (t : Tree) (path : List ℕ) (place : Place) → IsFree t (asks.Readlink path) → led t (asks.Readlink path) ≡ Some (Ok place) → is_link (node_at t.names place) ≡ true
read-link t path place free leads = link-place (node_at t.names place) (free-at t (asks.Readlink path) place free leads refl).none

pub link-told : (t : Tree) (path given : List ℕ) (place : Place) (goal : List ℕ) → led t (asks.Readlink path) ≡ Some (Ok place) → target_of (node_at t.names place) ≡ Some goal → given ≡ goal → text_to t (asks.Readlink path) ≡ Some given
unfolding text_to
link-told t path given place goal leads there is = cc

pub path-told : (t : Tree) (path text : List ℕ) (place : Place) → led t (asks.Realpath path) ≡ Some (Ok place) → text ≡ absolute place → text_to t (asks.Realpath path) ≡ Some text
unfolding text_to
path-told t path text place leads is = ap (λ o. led_to None o (λ place. Some (absolute place))) leads ∙ ap Some (sym is)

pub listing-told : (t : Tree) (path : List ℕ) (place : Place) (items : Table Name Attrs) → led t (asks.Opendir path) ≡ Some (Ok place) → items ≡ listing t place → listing_to t (asks.Opendir path) ≡ Some items
unfolding listing_to
listing-told t path place items leads is = ap (λ o. led_to None o (λ place. Some (listing t place))) leads ∙ ap Some (sym is)

led-there : (t : Tree) (path : List ℕ) (flags : ℕ) (attrs : Attrs) (place : Place)
    → led t (asks.Open path flags attrs) ≡ Some (Ok place) → reached t (not (excludes flags)) path ≡ Ok place
unfolding led
led-there t path flags attrs place leads = cc

-- a file is opened, or a new one
pub number-there : (t : Tree) (path : List ℕ) (flags : ℕ) (attrs : Attrs) (place : Place) → IsKept t
    → IsFree t (asks.Open path flags attrs) → led t (asks.Open path flags attrs) ≡ Some (Ok place)
    → is_some (number_at t (node_at t.names place)) ≡ true
number-there t path flags attrs place kept free leads =
    opened-by t flags (node_at t.names place) (excludes flags) refl (free-at t (asks.Open path flags attrs) place free leads refl).none
    (λ followed. reached-unlinked t path place kept (ap (λ b. reached t (not b) path) (sym followed) ∙ led-there t path flags attrs place leads))

pub number-told : (t : Tree) (path : List ℕ) (flags : ℕ) (attrs : Attrs) (place : Place) (number : ℕ)
    → led t (asks.Open path flags attrs) ≡ Some (Ok place) → number_at t (node_at t.names place) ≡ Some number
    → file_to t (asks.Open path flags attrs) ≡ Some number
unfolding file_to
number-told t path flags attrs place number leads is =
    ap (λ o. led_to None o (λ place. number_at t (node_at t.names place))) leads ∙ is

-- ==== What follows for every request, by where its paths lead: whether there is room, its plan, and the tree after it.

-- ---- room

pub room-for : (t : Tree) (ask : Ask) (end : Result Place Cause) (new : Option (Result Place Cause)) → ((place : Place) → end ≡ Ok place → IsKept t) → ((c : Cause) → plain_of t ask (Some end) new c ≡ false) → has_room_for t ask end new ≡ fits (outcome_led t ask (Some end) new)
room-for t ask (Ok place) None keeps none =
    let parts = plain-parts t ask (Some (Ok place)) None none in
    room-at t ask place (keeps place refl) parts.own parts.here
room-for t ask (Ok old) (Some (Ok new)) keeps none =
    let parts = plain-parts t ask (Some (Ok old)) (Some (Ok new)) none in
    room-between t ask old new (keeps old refl) parts.here parts.there parts.both
room-for t ask (Ok old) (Some (Err cause)) keeps none = sym (keeps old refl).within_limits
room-for t ask (Err cause) new keeps none =
    let holds = lost-first t ask cause new in
    let not_so = none cause in
    absurd cc

-- a set with `NoRoom`, as the code finds it, is the request's
pub judged : (t : Tree) (ask : Ask) (end : Result Place Cause) (new : Option (Result Place Cause)) (plain : CauseSet) (lacks : Bool) → led t ask ≡ Some end → new_led t ask ≡ new → ((place : Place) → end ≡ Ok place → IsKept t) → plain ≡ plain_of t ask (Some end) new → lacks ≡ (not (list_any plain every_cause) && not (has_room_for t ask end new)) → when plain NoRoom lacks ≡ causes t ask
judged t ask end new plain lacks one two keeps same is =
    let all = plain_of t ask (Some end) new in
    (λ i. when (same i) NoRoom (lack (is_none all) refl i)) ∙ sym (causes-are t ask (Some end) new one two)
  where
    both : (b : Bool) → is_none (plain_of t ask (Some end) new) ≡ b → (b && not (has_room_for t ask end new)) ≡ (b && not (fits (outcome_led t ask (Some end) new)))
    both true none = ap not (room-for t ask end new keeps (none-each (plain_of t ask (Some end) new) none))
    both false none = refl

    lack : (b : Bool) → is_none (plain_of t ask (Some end) new) ≡ b → lacks ≡ (is_none (plain_of t ask (Some end) new) && not (fits (outcome_led t ask (Some end) new)))
    lack b none = is ∙ ap (λ s. is_none s && not (has_room_for t ask end new)) same ∙ both (is_none (plain_of t ask (Some end) new)) refl

-- ---- plans

-- a plan of the code that is the request's
planned-by : (t : Tree) (ask : Ask) (plan : code.Plan) (end new : Option (Result Place Cause)) → led t ask ≡ end
    → new_led t ask ≡ new → IsKept t → CanDo AreAny t (plan_led t ask end new) → planned plan ≡ plan_led t ask end new
    → IsPlanned t ask plan
planned-by t ask plan end new one two kept can is = record {
  ready = (kept, subst (CanDo AreAny t) (sym is) can);
  done = ap trim (ap (carried t) is ∙ sym (outcome-is t ask end new one two));
}

pub planned-at : (t : Tree) (ask : Ask) (place : Place) (plan : code.Plan) → IsFree t ask → led t ask ≡ Some (Ok place) → new_led t ask ≡ None → IsPlaceOf t place → HasNode AreAny t ask place → planned plan ≡ plan_at t ask place → IsPlanned t ask plan
planned-at t ask place plan free one two is_place node =
    planned-by t ask plan (Some (Ok place)) None one two is_place.kept
    (can-at AreAny t ask place is_place.kept.well_formed (led-of t place is_place) (free-at t ask place free one two) node)

pub planned-between : (t : Tree) (ask : Ask) (old new : Place) (plan : code.Plan) → IsFree t ask → led t ask ≡ Some (Ok old) → new_led t ask ≡ Some (Ok new) → IsPlaceOf t new → planned plan ≡ plan_between t ask old new → IsPlanned t ask plan
planned-between t ask old new plan free one two is_place =
    planned-by t ask plan (Some (Ok old)) (Some (Ok new)) one two is_place.kept
    (can-between AreAny t ask old new is_place.kept.well_formed (led-of t new is_place) (free-between t ask old new free one two))

-- ---- trees

-- the plan of a request that no cause refuses can be carried out
can-led : (t : Tree) (ask : Ask) (end new : Option (Result Place Cause)) → led t ask ≡ end → new_led t ask ≡ new → LeadsWell t → WellFormed t → IsAsk ask → IsFree t ask → CanDo IsAttrs t (plan_led t ask end new)
unfolding led
can-led t ask (Some (Ok place)) None one two leads well fits free =
    can-at IsAttrs t ask place well (led-well t (follows ask) (path_of ask) place leads (path-bytes ask fits) one)
    (free-at t ask place free one two) (node-values t ask place well fits)
can-led t ask (Some (Ok old)) (Some (Ok new)) one two leads well fits free =
    can-between IsAttrs t ask old new well (led-well t false (new_path_of ask) new leads (new-path-bytes ask fits) two)
    (free-between t ask old new free one two)
can-led t ask None new one two leads well fits free = tt
can-led t ask (Some (Err cause)) new one two leads well fits free = tt
can-led t ask (Some (Ok old)) (Some (Err cause)) one two leads well fits free = tt

-- where paths of all trees within the limits lead well, the trees that requests ask for are trees
abbrev pub PathsLeadWell : Type 0
PathsLeadWell = (t : Tree) → IsKept t → LeadsWell t

-- walks go by names and the home alone
same-walk : (t : Tree) (follow : Bool) (path : List ℕ) → reached (trim t) follow path ≡ reached t follow path
unfolding reached
same-walk t follow path = refl

leads-untrimmed : PathsLeadWell → (t : Tree) → Stands t → LeadsWell t
leads-untrimmed paths t stands follow path place bytes is =
    let leads = paths (trim t) (kept-trim t stands.well_formed stands.within_limits) follow path place bytes (same-walk t follow path ∙ is) in
    record { named = leads.named; above = leads.above }

pub outcome-stands : PathsLeadWell → (t : Tree) (ask : Ask) → WellFormed t → IsTrue (fits t) → IsAsk ask → IsFree t ask → Stands (outcome t ask)
unfolding outcome
outcome-stands paths t ask well within fit free =
    let leads = leads-untrimmed paths t (record { well_formed = well; within_limits = within }) in
    record {
      well_formed = well-plan t (plan_led t ask (led t ask) (new_led t ask)) well
          (can-led t ask (led t ask) (new_led t ask) refl refl leads well fit free);
      within_limits = (free-led t ask (led t ask) (new_led t ask) free refl refl).room;
    }

pub after-kept : PathsLeadWell → (t : Tree) (ask : Ask) → IsKept t → IsAsk ask → IsFree t ask → IsKept (after t ask)
after-kept paths t ask kept fit free =
    let stands = outcome-stands paths t ask kept.well_formed kept.within_limits fit free in
    kept-trim (outcome t ask) stands.well_formed stands.within_limits

-- ---- files and their numbers

pub made-stays : (t : Tree) (ask : Ask) → t.made ≤ (outcome t ask).made
made-stays t = by-outcome t (λ x. t.made ≤ x.made) (omega arith) (λ names. omega arith) (λ number before content there. omega arith) (λ place content. omega arith)

pub numbered-outcome : (t : Tree) (ask : Ask) → InOrder nat_cmp t.files → InOrder nat_cmp (outcome t ask).files
numbered-outcome t ask order =
    by-outcome t (λ x. InOrder nat_cmp x.files) order (λ names. order) (λ number before content there. InOrder-put nat_cmp nat_cmp_total t.files number content order)
    (λ place content. InOrder-put nat_cmp nat_cmp_total t.files t.made content order) ask

pub content-after : (t : Tree) (ask : Ask) (number : ℕ) → WellFormed t → content_at (after t ask).files number ≡ (if is_held (outcome t ask) number then content_at (outcome t ask).files number else None)
content-after t ask number well = content-left (outcome t ask) (is_pinned (outcome t ask).pins) number (numbered-outcome t ask well.numbered)

none-left : (n : ℕ) → nat_lt 0 n ≡ false → n ≡ 0
none-left n none = search rules

gone-by : (n p : ℕ) (b : Bool) (o : Option Content) → (nat_lt 0 n || nat_lt 0 p) ≡ b → ((if b then o else None) ≡ None) ↔ ((o ≡ None) ⊎ ((n ≡ 0) × (p ≡ 0)))
gone-by n p true o is = (λ gone. inl gone, λ either. elim either [ inl gone ↦ gone | inr none ↦ absurd (both_ways (nat_lt 0 n || nat_lt 0 p) (λ i. nat_lt 0 (none.0 i) || nat_lt 0 (none.1 i)) is) ])
gone-by n p false o is =
    let parts = or_parts (nat_lt 0 n) (nat_lt 0 p) is in
    (λ gone. inr (none-left n parts.0, none-left p parts.1), λ either. refl)

-- a file is gone just where there was none, or no name of it is left and nothing pins it
pub gone-after : (t : Tree) (ask : Ask) (number : ℕ) → WellFormed t
    → (content_at (after t ask).files number ≡ None) ↔ ((content_at (outcome t ask).files number ≡ None) ⊎ ((times_named (outcome t ask).names number ≡ 0) × (times_pinned (outcome t ask).pins number ≡ 0)))
gone-after t ask number well =
    subst (λ o. (o ≡ None) ↔ ((content_at (outcome t ask).files number ≡ None) ⊎ ((times_named (outcome t ask).names number ≡ 0) × (times_pinned (outcome t ask).pins number ≡ 0)))) (sym (content-after t ask number well))
    (gone-by (times_named (outcome t ask).names number) (times_pinned (outcome t ask).pins number) (is_held (outcome t ask) number) (content_at (outcome t ask).files number) refl)

-- ---- what requests leave as it was

pub pins-stay : (t : Tree) (ask : Ask) → (outcome t ask).pins ≡ t.pins
pins-stay t = by-outcome t (λ x. x.pins ≡ t.pins) refl (λ names. refl) (λ number before content there. refl) (λ place content. refl)

pub limits-stay : (t : Tree) (ask : Ask) → (outcome t ask).limits ≡ t.limits
limits-stay t = by-outcome t (λ x. x.limits ≡ t.limits) refl (λ names. refl) (λ number before content there. refl)
    (λ place content. refl)
