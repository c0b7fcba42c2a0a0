-- The table of requests, and what follows from it: where the paths of a request lead, which causes hold, the tree after
-- it and what its reply says (draft-ietf-secsh-filexfer-02, sections 6.3 to 6.11; OpenSSH's PROTOCOL, section 4.1 for
-- the order of SYMLINK's arguments, 4.3 for posix-rename and 4.5 for hardlink). Which walks follow a last link is this
-- profile's own.
use Rattle.std.specs.Prelude.{◌&&◌, ◌||◌, not, ℕ, Bool, true, false, List, Option, Some, None, is_some, Result, Ok, Err}
use Rattle.std.specs.Prelude.{IsTrue}
use Rattle.std.specs.Option.{option_map}
use Rattle.sftp_packets.specs.declared.attributes.Attrs.{Attrs}
use Rattle.sftp_packets.specs.declared.requests.Ask.{Ask}
use Rattle.sftp_packets.specs.declared.requests.Ask.TheVariants.{Lstat, Setstat, Remove, Mkdir, Rmdir, Realpath, Stat}
use Rattle.sftp_packets.specs.declared.requests.Ask.TheVariants.{Rename, Readlink, Symlink, PosixRename, Hardlink, Open}
use Rattle.sftp_packets.specs.declared.requests.Ask.TheVariants.{Opendir, Close, Read, Write, Fstat, Fsetstat, Readdir}
use Rattle.sftp_packets.specs.declared.requests.Ask.TheVariants.{Fsync, Limits, Unknown}
use Rattle.sftp_path.specs.Place.{Name, Place, absolute}
use Rattle.sftp_treefile.specs.TreeFile.{IsOwner, are_bytes}
use Rattle.sftp_path.specs.Table.{Table}
use Rattle.sftp_tree.specs.declared.nodes.Node.{Node}
use Rattle.sftp_tree.specs.declared.nodes.Node.TheVariants.{Dir, File, Link}
use Rattle.sftp_tree.specs.declared.causes.Cause.{Cause}
use Rattle.sftp_tree.specs.declared.causes.Cause.TheVariants.{NoRoom}
use Rattle.sftp_tree.specs.declared.asks.PathAsk.{PathAsk}
use Rattle.sftp_tree.specs.declared.asks.PathAsk.TheVariants as paths
use Rattle.sftp_tree.specs.Tree.{Tree, node_at, trim, fits, is_file}
use Rattle.sftp_tree.specs.Walk.{reached}
use Rattle.sftp_tree.specs.Attributes.{directory_owner, file_owner, shown}
use Rattle.sftp_tree.specs.PlaceCauses.{CauseSet, no_causes, when, joined, is_none}
use Rattle.sftp_tree.specs.PlaceCauses.{making_causes, needing_causes, link_causes, file_causes, setting_causes}
use Rattle.sftp_tree.specs.PlaceCauses.{removing_causes, unlinking_causes, leaving_causes, giving_causes}
use Rattle.sftp_tree.specs.PlaceCauses.{target_bytes_causes, moving_causes, exchanging_causes, opening_causes}
use Rattle.sftp_tree.specs.PlaceCauses.{directory_causes, flags_causes}
use Rattle.sftp_tree.specs.Changes.{Plan, no_change, put_node, remove_node, move_node, carried, plan_to_set}
use Rattle.sftp_tree.specs.Changes.{plan_to_open, plan_to_exchange, plan_to_name}
use Rattle.sftp_tree.specs.Attributes.{excludes}
use Rattle.sftp_tree.specs.Attributes.{listing}
use Rattle.sftp_tree.specs.PlaceCauses.{are_one}
use Rattle.sftp_tree.specs.Room.{has_room, size_fits_at, has_room_to_open, move_fits, OwnsBy}

-- ---- what a reply says

-- what the reply to a request that was done says
pub data Told : Type 0 where
  -- that it was done
  done : Told
  -- the attributes of the node at the place
  attributes : Option Attrs → Told
  -- a name of these bytes
  name : Option (List ℕ) → Told
  -- that the file of this number is open
  file : Option ℕ → Told
  -- that the directory with these names is open, each with the attributes of its node
  listed : Table Name Attrs → Told

abbrev pub shown_at : Tree → Option Node → Option Attrs
shown_at t None = None
shown_at t (Some standing) = shown t standing

abbrev pub target_of : Option Node → Option (List ℕ)
target_of (Some (Link target)) = Some target
target_of (Some (Dir owner)) = None
target_of (Some (File number)) = None
target_of None = None

-- the number of the file that is opened: at a free place the next one
abbrev pub number_at : Tree → Option Node → Option ℕ
number_at t None = Some t.made
number_at t (Some (File number)) = Some number
number_at t (Some (Dir owner)) = None
number_at t (Some (Link target)) = None

-- ---- the table of requests

-- what there is to say of a request
pub record Row : Type 0 where
  -- the path that it walks, or the first of two
  pub path : Option (List ℕ)
  -- the second path, of a request that has two: a new name
  pub new_path : Option (List ℕ)
  -- whether a last link is followed
  pub follows : Bool
  -- the causes of its own bytes
  pub own : CauseSet
  -- the causes at the place that the path leads to, at the place that the new one leads to, and of both
  pub here : Tree → Place → CauseSet
  pub there : Tree → Place → CauseSet
  pub both : Tree → Place → Place → CauseSet
  -- its plan at the one place, or with the two
  pub plan : Tree → Place → Plan
  pub plan_both : Tree → Place → Place → Plan
  -- what its reply says of the place
  pub told : Tree → Place → Told

-- of a request that names no path, which the tree by itself neither refuses nor lets change it; other rows say only
-- where they differ from it
abbrev pub no_step : Row
no_step = record {
  path = None;
  new_path = None;
  follows = false;
  own = no_causes;
  here = λ t place. no_causes;
  there = λ t place. no_causes;
  both = λ t old new. no_causes;
  plan = λ t place. no_change;
  plan_both = λ t old new. no_change;
  told = λ t place. done;
}

-- of a request that makes something at the end of its path
abbrev pub making_row : List ℕ → Row
making_row path = record no_step { path = Some path; here = λ t place. making_causes (node_at t.names place) }

-- of a request for the attributes of the node at the end of its path
abbrev pub showing_row : List ℕ → Row
showing_row path = record no_step {
  path = Some path;
  here = λ t place. needing_causes (node_at t.names place);
  told = λ t place. attributes (shown_at t (node_at t.names place));
}

-- of a request that leads from an old name to a new one
abbrev pub pair_row : List ℕ → List ℕ → Row
pair_row oldpath newpath = record no_step { path = Some oldpath; new_path = Some newpath }

abbrev pub row_of : Ask → Row
row_of (Mkdir path attrs) = record (making_row path) {
  plan = λ t place. put_node place (Dir (directory_owner t attrs));
}
row_of (Symlink target link) = record (making_row link) {
  own = target_bytes_causes target;
  plan = λ t place. put_node place (Link target);
}
row_of (Rmdir path) = record no_step {
  path = Some path;
  here = λ t place. removing_causes t.names place;
  plan = λ t place. remove_node place;
}
row_of (Remove path) = record no_step {
  path = Some path;
  here = λ t place. unlinking_causes (node_at t.names place);
  plan = λ t place. remove_node place;
}
row_of (Setstat path attrs) = record no_step {
  path = Some path;
  follows = true;
  here = λ t place. setting_causes attrs (node_at t.names place);
  plan = λ t place. plan_to_set attrs place (node_at t.names place);
}
row_of (Stat path) = record (showing_row path) { follows = true }
row_of (Lstat path) = showing_row path
row_of (Realpath path) = record no_step {
  path = Some path;
  follows = true;
  told = λ t place. name (Some (absolute place));
}
row_of (Readlink path) = record no_step {
  path = Some path;
  here = λ t place. link_causes (node_at t.names place);
  told = λ t place. name (target_of (node_at t.names place));
}
row_of (Rename oldpath newpath) = record (pair_row oldpath newpath) {
  here = λ t place. leaving_causes t.names place;
  there = λ t place. making_causes (node_at t.names place);
  both = λ t old new. moving_causes t.names old new;
  plan_both = λ t old new. move_node old new;
}
row_of (PosixRename oldpath newpath) = record (pair_row oldpath newpath) {
  here = λ t place. leaving_causes t.names place;
  there = λ t place. giving_causes place;
  both = λ t old new. exchanging_causes t.names old new;
  plan_both = λ t old new. plan_to_exchange t.names old new;
}
row_of (Hardlink oldpath newpath) = record (pair_row oldpath newpath) {
  here = λ t place. file_causes (node_at t.names place);
  there = λ t place. making_causes (node_at t.names place);
  plan_both = λ t old new. plan_to_name (node_at t.names old) new;
}
row_of (Open path pflags attrs) = record no_step {
  path = Some path;
  follows = not (excludes pflags);
  own = flags_causes pflags;
  here = λ t place. opening_causes pflags (node_at t.names place);
  plan = λ t place. plan_to_open t pflags attrs place (node_at t.names place);
  told = λ t place. file (number_at t (node_at t.names place));
}
row_of (Opendir path) = record no_step {
  path = Some path;
  follows = true;
  here = λ t place. directory_causes (node_at t.names place);
  told = λ t place. listed (listing t place);
}
-- the others name no path; they are named so that a new request needs a row
row_of (Close handle) = no_step
row_of (Read handle offset len) = no_step
row_of (Write handle offset bytes) = no_step
row_of (Fstat handle) = no_step
row_of (Fsetstat handle attrs) = no_step
row_of (Readdir handle) = no_step
row_of (Fsync handle) = no_step
row_of Limits = no_step
row_of (Unknown extension rest) = no_step

-- ---- its columns

abbrev pub path_of : Ask → Option (List ℕ)
path_of ask = (row_of ask).path

abbrev pub new_path_of : Ask → Option (List ℕ)
new_path_of ask = (row_of ask).new_path

abbrev pub follows : Ask → Bool
follows ask = (row_of ask).follows

-- whether the request is judged
abbrev pub has_step : Ask → Bool
has_step ask = is_some (path_of ask)

abbrev pub own_causes : Ask → CauseSet
own_causes ask = (row_of ask).own

abbrev pub causes_at : Tree → Ask → Place → CauseSet
causes_at t ask = (row_of ask).here t

abbrev pub new_causes_at : Tree → Ask → Place → CauseSet
new_causes_at t ask = (row_of ask).there t

abbrev pub causes_between : Tree → Ask → Place → Place → CauseSet
causes_between t ask = (row_of ask).both t

abbrev pub plan_at : Tree → Ask → Place → Plan
plan_at t ask = (row_of ask).plan t

abbrev pub plan_between : Tree → Ask → Place → Place → Plan
plan_between t ask = (row_of ask).plan_both t

abbrev pub told_at : Tree → Ask → Place → Told
told_at t ask = (row_of ask).told t

-- ---- where paths lead

-- where the path of a request leads
unfoldable pub led : Tree → Ask → Option (Result Place Cause)
led t ask = option_map (reached t (follows ask)) (path_of ask)

-- where its new name leads; a last link is not followed
abbrev pub new_led : Tree → Ask → Option (Result Place Cause)
new_led t ask = option_map (reached t false) (new_path_of ask)

-- ---- the causes of a request

-- a path that leads nowhere has that one cause
abbrev pub led_causes : Option (Result Place Cause) → (Place → CauseSet) → CauseSet
led_causes None at = no_causes
led_causes (Some (Ok place)) at = at place
led_causes (Some (Err failed)) at = when no_causes failed true

-- causes of two places hold if each path leads to one
abbrev pub both_causes : Option (Result Place Cause) → Option (Result Place Cause)
    → (Place → Place → CauseSet) → CauseSet
both_causes (Some (Ok old)) (Some (Ok new)) between = between old new
both_causes _ _ between = no_causes

-- the causes other than `NoRoom`, by where the paths lead
abbrev pub plain_of : Tree → Ask → Option (Result Place Cause) → Option (Result Place Cause) → CauseSet
plain_of t ask end new_end =
    joined (joined (joined (own_causes ask)
    (led_causes end (causes_at t ask)))
    (led_causes new_end (new_causes_at t ask)))
    (both_causes end new_end (causes_between t ask))

unfoldable pub plain_causes : Tree → Ask → CauseSet
plain_causes t ask = plain_of t ask (led t ask) (new_led t ask)

-- ---- the tree that a request asks for

abbrev pub led_to : {A : Type 0} → A → Option (Result Place Cause) → (Place → A) → A
led_to otherwise None at = otherwise
led_to otherwise (Some (Ok place)) at = at place
led_to otherwise (Some (Err cause)) at = otherwise

-- its plan by the place of a first path, and of a second one if there is one
abbrev pub plan_on : Tree → Ask → Place → Option (Result Place Cause) → Plan
plan_on t ask place None = plan_at t ask place
plan_on t ask place (Some (Ok new)) = plan_between t ask place new
plan_on t ask place (Some (Err cause)) = no_change

-- by where the paths lead
abbrev pub plan_led : Tree → Ask → Option (Result Place Cause) → Option (Result Place Cause) → Plan
plan_led t ask end new_end = led_to no_change end (λ place. plan_on t ask place new_end)

abbrev pub outcome_led : Tree → Ask → Option (Result Place Cause) → Option (Result Place Cause) → Tree
outcome_led t ask end new_end = carried t (plan_led t ask end new_end)

-- the tree that a request which no cause refuses asks for; files that nothing holds any more still exist
unfoldable pub outcome : Tree → Ask → Tree
outcome t ask = outcome_led t ask (led t ask) (new_led t ask)

-- the tree after such a request: a file goes with its last name, unless it is pinned
abbrev pub after : Tree → Ask → Tree
after t ask = trim (outcome t ask)

-- `NoRoom` holds if no other cause holds and the tree asked for breaks a limit
abbrev pub with_room : CauseSet → Tree → CauseSet
with_room plain asked = when plain NoRoom (is_none plain && not (fits asked))

-- the causes that hold
unfoldable pub causes : Tree → Ask → CauseSet
causes t ask = with_room (plain_causes t ask) (outcome t ask)

-- ==== The requests as the code has them, and what it needs of each. Words of private contracts.

-- the request that the code has as one of its paths
abbrev pub asked : PathAsk → Ask
asked (paths.Mkdir path attrs) = Mkdir path.now attrs.now
asked (paths.Rmdir path) = Rmdir path.now
asked (paths.Remove path) = Remove path.now
asked (paths.Setstat path attrs) = Setstat path.now attrs.now
asked (paths.Stat path) = Stat path.now
asked (paths.Lstat path) = Lstat path.now
asked (paths.Realpath path) = Realpath path.now
asked (paths.Readlink path) = Readlink path.now
asked (paths.Symlink target link) = Symlink target.now link.now
asked (paths.Rename old new) = Rename old.now new.now
asked (paths.PosixRename old new) = PosixRename old.now new.now
asked (paths.Hardlink old new) = Hardlink old.now new.now
asked (paths.Open path flags attrs) = Open path.now flags attrs.now
asked (paths.Opendir path) = Opendir path.now

-- ---- whether what a request asks for keeps to the limits

-- at the place that its path leads to
abbrev pub has_room_at : Tree → Ask → Place → Bool
has_room_at t (Mkdir path attrs) place = has_room t place
has_room_at t (Symlink target link) place = has_room t place
has_room_at t (Setstat path attrs) place = size_fits_at t attrs.size (node_at t.names place)
has_room_at t (Open path pflags attrs) place = has_room_to_open t place (node_at t.names place)
has_room_at t other place = true

-- with the two places that its paths lead to
abbrev pub has_room_between : Tree → Ask → Place → Place → Bool
has_room_between t (Rename oldpath newpath) old new = move_fits t.names old new
has_room_between t (PosixRename oldpath newpath) old new = are_one t.names old new || move_fits t.names old new
has_room_between t (Hardlink oldpath newpath) old new = has_room t new
has_room_between t other old new = true

-- by where its paths lead
abbrev pub has_room_for : Tree → Ask → Result Place Cause → Option (Result Place Cause) → Bool
has_room_for t ask (Ok place) None = has_room_at t ask place
has_room_for t ask (Ok old) (Some (Ok new)) = has_room_between t ask old new
has_room_for t ask (Ok old) (Some (Err cause)) = true
has_room_for t ask (Err cause) new = true

-- ---- what is to be done for it

-- the owner of a new directory or of a new file is an owner, and so is that of a directory whose attributes are set;
-- the target of a new link is bytes; `P` holds of the attributes that a file gets
abbrev pub HasNode : (Attrs → Type 0) → Tree → Ask → Place → Type 0
HasNode P t (Mkdir path attrs) place = IsOwner (directory_owner t attrs)
HasNode P t (Symlink target link) place = IsTrue (are_bytes target)
HasNode P t (Setstat path attrs) place = P attrs × OwnsBy attrs (node_at t.names place)
HasNode P t (Open path pflags attrs) place = IsOwner (file_owner t attrs)
HasNode P t other place = Unit {0}

-- only a file gets a further name
abbrev pub IsFileAt : Tree → Ask → Place → Type 0
IsFileAt t (Hardlink oldpath newpath) old = IsTrue (is_file (node_at t.names old))
IsFileAt t other old = Unit {0}
