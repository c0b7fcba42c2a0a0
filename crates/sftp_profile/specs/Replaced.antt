-- Requests that a profile replaces before they are judged (POSIX, open, mkdir and chown; the draft, section 6.10, for
-- the order of SYMLINK's paths).
use Rattle.std.specs.Prelude.{◌==◌, ◌-◌, ◌&&◌, ◌||◌, not, ℕ, Bool, false, if◌then◌else◌, Option, Some, None}
use Rattle.std.specs.Prelude.{unwrap_or, List, [], ◌∷◌, Result, Ok, Err, true, codes, is_some}
use Rattle.std.specs.Int.RustNames.{bit_and, bit_or}
use Rattle.sftp_packets.specs.declared.attributes.Attrs.{Attrs}
use Rattle.sftp_packets.specs.declared.requests.Ask.{Ask}
use Rattle.sftp_packets.specs.declared.requests.Ask.TheVariants as asks
use Rattle.sftp_path.specs.Place.{Place, parent, same_bytes}
use Rattle.sftp_tree.specs.Attributes.{excludes}
use Rattle.sftp_tree.specs.Requests.{shown_at, causes}
use Rattle.sftp_tree.specs.Tree.{Tree, node_at}
use Rattle.sftp_handles.specs.State.{State}
use Rattle.sftp_profile.specs.declared.profiles.NewOwner.{NewOwner}
use Rattle.sftp_profile.specs.declared.profiles.NewOwner.TheVariants.{User, Given, Group, Posix}
use Rattle.sftp_profile.specs.declared.profiles.Profile.{Profile}
use Rattle.sftp_profile.specs.Notes.{led_to}
use Rattle.sftp_profile.specs.Shown as shown
use Rattle.sftp_packets.specs.declared.errors.Fault.{Fault}
use Rattle.sftp_packets.specs.declared.packets.Packet.{Packet}
use Rattle.sftp_packets.specs.declared.packets.Packet.TheVariants.{Request}
use Rattle.sftp_packets.specs.declared.replies.Answer.{Answer}
use Rattle.sftp_packets.specs.Reading.{two, string_at, attributes_at}
use Rattle.sftp_tree.specs.PlaceCauses.{is_none}
use Rattle.sftp_handles.specs.Replies.{has_code}
use Rattle.sftp_profile.specs.BytesRead.{is_loose}

-- ---- what is made

-- of twelve bits those that the mask does not have
abbrev pub unmasked : ℕ → ℕ → ℕ
unmasked umask permissions = bit_and permissions (0o7777 - bit_and umask 0o7777)

-- the owner in these attributes, if there is one
abbrev pub owner_of : Option Attrs → Option (ℕ × ℕ)
owner_of (Some attrs) = attrs.owner
owner_of None = None

-- the attributes of the directory that a place is in, if there is one
abbrev pub attributes_above : Tree → Option Place → Option Attrs
attributes_above t (Some place) = shown_at t (node_at t.names (parent place))
attributes_above t None = None

abbrev pub owner_above : Tree → Option Place → Option (ℕ × ℕ)
owner_above t place = owner_of (attributes_above t place)

-- they have the set-gid bit
abbrev pub sets_group : Option Attrs → Bool
sets_group (Some attrs) = bit_and (unwrap_or attrs.permissions 0) 0o2000 == 0o2000
sets_group None = false

-- the owner in these attributes, if they have the set-gid bit
abbrev pub owner_by_bit : Option Attrs → Option (ℕ × ℕ)
owner_by_bit above = if sets_group above then owner_of above else None

-- the tree's user, with the group of this owner; without one, with the tree's
abbrev pub with_group : Tree → Option (ℕ × ℕ) → ℕ × ℕ
with_group t (Some owner) = (t.uid, owner.1)
with_group t None = (t.uid, t.gid)

-- the owner of what is made at a place, where the request gives this one; without any it is the tree's
abbrev pub owner_at : NewOwner → Tree → Option Place → Option (ℕ × ℕ) → Option (ℕ × ℕ)
owner_at User t place given = None
owner_at Given t place given = given
owner_at Group t place given = Some (with_group t (owner_above t place))
owner_at Posix t place given = Some (with_group t (owner_by_bit (attributes_above t place)))

-- the bit, if they have it
abbrev pub bits_of : Option Attrs → ℕ
bits_of above = if sets_group above then 0o2000 else 0

-- the bits that a directory has besides that is made at a place
abbrev pub bits_at : NewOwner → Tree → Option Place → ℕ
bits_at Posix t place = bits_of (attributes_above t place)
bits_at other t place = 0

-- the attributes of what is made with this owner, with these bits besides
abbrev pub made_attributes : Profile → ℕ → ℕ → Option (ℕ × ℕ) → Attrs → Attrs
made_attributes profile usual bits owner attrs = record attrs {
  owner = owner;
  permissions = Some (bit_or (unmasked profile.umask (unwrap_or attrs.permissions usual)) bits);
}

-- those of a directory, and of a file, that is made where a path leads; where nothing is made there, the owner has no
-- effect
abbrev pub directory_where : Profile → Tree → Option Place → Attrs → Attrs
directory_where profile t place attrs =
    made_attributes profile 0o777 (bits_at profile.new_owner t place)
    (owner_at profile.new_owner t place attrs.owner) attrs

abbrev pub file_where : Profile → Tree → Option Place → Attrs → Attrs
file_where profile t place attrs =
    made_attributes profile 0o666 0 (owner_at profile.new_owner t place attrs.owner) attrs

-- ---- the owner that is set

-- the number that stands for no user and for no group
abbrev pub is_no_id : ℕ → Bool
is_no_id id = id == 0xffffffff

-- an owner has a half that is to stay
abbrev pub keeps_half : Option (ℕ × ℕ) → Bool
keeps_half (Some owner) = is_no_id owner.0 || is_no_id owner.1
keeps_half None = false

abbrev pub half_of : ℕ → ℕ → ℕ
half_of asked there = if is_no_id asked then there else asked

-- the owner that is set, where there is the other
abbrev pub kept_owner : Option (ℕ × ℕ) → Option (ℕ × ℕ) → Option (ℕ × ℕ)
kept_owner (Some asked) (Some there) = Some (half_of asked.0 there.0, half_of asked.1 there.1)
kept_owner (Some asked) None = Some asked
kept_owner None there = None

-- the attributes that are set, where these are shown
abbrev pub kept_attributes : Option Attrs → Attrs → Attrs
kept_attributes there attrs = record attrs { owner = kept_owner attrs.owner (owner_of there) }

-- ---- the request

-- the request that stands for this one, if the profile replaces it
abbrev pub replaced : Profile → State → Ask → Option Ask
replaced profile s (asks.Mkdir path attrs) =
    if profile.made then Some (asks.Mkdir path (directory_where profile s.tree (led_to s.tree false path) attrs))
    else None
replaced profile s (asks.Open path pflags attrs) =
    if profile.made
    then Some (asks.Open path pflags (file_where profile s.tree (led_to s.tree (not (excludes pflags)) path) attrs))
    else None
replaced profile s (asks.Setstat path attrs) =
    if profile.keep_owner && keeps_half attrs.owner
    then Some (asks.Setstat path (kept_attributes (shown.shown_at s.tree (asks.Stat path)) attrs)) else None
replaced profile s (asks.Fsetstat handle attrs) =
    if profile.keep_owner && keeps_half attrs.owner
    then Some (asks.Fsetstat handle (kept_attributes (shown.shown_open s handle) attrs)) else None
replaced profile s (asks.Symlink targetpath linkpath) =
    if profile.symlink_draft then Some (asks.Symlink linkpath targetpath) else None
replaced profile s other = None

-- the request that is judged
abbrev pub put : Profile → State → Ask → Ask
put profile s ask = unwrap_or (replaced profile s ask) ask

-- ==== The data of extensions, as they are read (draft-ietf-secsh-filexfer-02, sections 3 and 8).

-- what was read, if there was no fault and nothing is left
abbrev pub whole : {A : Type 0} → Result (A × List ℕ) Fault → Option A
whole (Ok (value, [])) = Some value
whole (Ok (value, b ∷ bytes)) = None
whole (Err fault) = None

-- what a packet asks for, if it is a request and nothing is left behind it. A word of private contracts
abbrev pub ask_in : Packet → Bool → Option Ask
ask_in (Request request) true = Some request.ask
ask_in packet other = None

-- ==== lsetstat@openssh.com: a SETSTAT that does not follow a last link (OpenSSH's PROTOCOL, section 4; its sftp sends
-- it for `chown -h` and `chmod -h`).

-- ---- the request

abbrev pub is_lsetstat : List ℕ → Bool
is_lsetstat name = same_bytes name (codes "lsetstat@openssh.com")

-- the SETSTAT of the path and the attributes that these bytes spell, if they spell nothing else
unfoldable pub setstat_in : List ℕ → Option Ask
setstat_in rest = whole (two string_at attributes_at asks.Setstat rest)

-- that of an lsetstat
abbrev pub setstat_of : Ask → Option Ask
setstat_of (asks.Unknown name rest) = if is_lsetstat name then setstat_in rest else None
setstat_of other = None

-- attributes that set nothing
abbrev pub sets_nothing : Attrs → Bool
sets_nothing a =
    not (is_some a.size)
    && (not (is_some a.owner)
    && (not (is_some a.permissions) && (not (is_some a.times) && not (is_some a.extended))))

-- ---- what is there

-- the path itself leads to a link, and does not go on behind it, as one with a slash or dots at its end does (POSIX.1,
-- 4.13)
abbrev pub is_link_at : Tree → List ℕ → Bool
is_link_at t path = not (is_loose path) && is_none (causes t (asks.Readlink path))

-- a SETSTAT of anything but a link, as the profile judges it
abbrev pub set_unlinked : Profile → State → Ask → Option Ask
set_unlinked profile s (asks.Setstat path attrs) =
    if is_link_at s.tree path then None else Some (put profile s (asks.Setstat path attrs))
set_unlinked profile s other = None

abbrev pub set_if : Profile → State → Option Ask → Option Ask
set_if profile s (Some ask) = set_unlinked profile s ask
set_if profile s None = None

-- what an lsetstat is taken for: where the path leads to no link, a SETSTAT
abbrev pub set_as : Profile → State → Ask → Option Ask
set_as profile s ask = set_if profile s (setstat_of ask)

-- ---- what passes as it stands

-- a size may be refused wherever the path leads; what sets nothing may be done there, if a SETSTAT may; of a link, all
-- else may be set or refused, and the tree keeps none of it
abbrev pub passes_set : Profile → Tree → Option Ask → Answer → Bool
passes_set profile t (Some (asks.Setstat path attrs)) answer =
    if is_some attrs.size then has_code 4 answer || has_code 5 answer
    else profile.empty_setstat && (sets_nothing attrs && has_code 0 answer)
    || is_link_at t path && (has_code 0 answer || has_code 4 answer)
passes_set profile t other answer = false

abbrev pub passes_lsetstat : Profile → Tree → Ask → Answer → Bool
passes_lsetstat profile t ask answer = passes_set profile t (setstat_of ask) answer
