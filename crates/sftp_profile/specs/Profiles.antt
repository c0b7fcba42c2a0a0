-- Profiles: which departures from the strict reading are accepted.
use Rattle.std.specs.Prelude.{◌&&◌, ◌||◌, not, Bool, true, false, ℕ, List, [], ◌∷◌, Option, find, bytes_eq, codes}
use Rattle.std.specs.Prelude.{◌==◌, ◌+◌, if◌then◌else◌, ◌++◌, length, drop, Some, None, slice_get, filter}
use Rattle.sftp_profile.specs.declared.profiles.NewOwner.TheVariants.{User}
use Rattle.sftp_profile.specs.declared.profiles.Profile.{Profile}
use Rattle.std.specs.Option.{option_map}
use Rattle.sftp_profile.specs.declared.names.Departure.{Departure}
use Rattle.sftp_profile.specs.declared.names.Departure.TheVariants as departures
use Rattle.sftp_packets.specs.Spelling.{no_attributes}
use Rattle.sftp_path.specs.Place.{Name, Place, name_cmp, same_bytes, begins, is_name}
use Rattle.sftp_path.specs.Table.{put, without}
use Rattle.sftp_profile.specs.declared.directories.Directory.{Directory}
use Rattle.sftp_profile.specs.declared.directories.Shift.{Shift}

-- no departure
abbrev pub strict : Profile
strict = record {
  codes = false;
  slash = false;
  empty_setstat = false;
  dots = false;
  dir_size = false;
  limits = false;
  extensions = false;
  open_dir = false;
  listing = false;
  flags = false;
  hardlink_link = false;
  read = false;
  set_id = false;
  link_attrs = false;
  special = false;
  realpath = false;
  made = false;
  keep_owner = false;
  lsetstat = false;
  copy_data = false;
  denied = false;
  full = false;
  new_owner = User;
  umask = 0;
  symlink_draft = false;
}

-- what servers with real file systems do differently: all departures but those of users without rights or room
abbrev pub posix : Profile
posix = record {
  codes = true;
  slash = true;
  empty_setstat = true;
  dots = true;
  dir_size = true;
  limits = true;
  extensions = true;
  flags = true;
  hardlink_link = true;
  read = true;
  set_id = true;
  link_attrs = true;
  special = true;
  realpath = true;
  open_dir = true;
  listing = true;
  made = true;
  keep_owner = true;
  lsetstat = true;
  copy_data = true;
  denied = false;
  full = false;
  new_owner = User;
  umask = 0;
  symlink_draft = false;
}

-- the same for users whom the server denies requests, on a disk that may be full
abbrev pub posix_user : Profile
posix_user = record posix { denied = true; full = true }

-- each request is judged as it stands first
abbrev pub keeps_requests : Profile → Bool
keeps_requests profile = not profile.made && (not profile.keep_owner && not profile.symlink_draft)

-- it has no use for the directories that are open, so the session is all of the state
abbrev pub is_stateless : Profile → Bool
is_stateless profile = not (profile.open_dir || profile.listing)

-- ==== The departures by their names, as the command line of the program has them.

abbrev pub name_of : Departure → List ℕ
name_of departures.Codes = codes "codes"
name_of departures.Slash = codes "slash"
name_of departures.Limits = codes "limits"
name_of departures.Flags = codes "flags"
name_of departures.HardlinkLink = codes "hardlink-link"
name_of departures.Realpath = codes "realpath"
name_of departures.Read = codes "read"
name_of departures.EmptySetstat = codes "empty-setstat"
name_of departures.Dots = codes "dots"
name_of departures.DirSize = codes "dir-size"
name_of departures.SetId = codes "set-id"
name_of departures.LinkAttrs = codes "link-attrs"
name_of departures.Special = codes "special"
name_of departures.OpenDir = codes "open-dir"
name_of departures.Listing = codes "listing"
name_of departures.Made = codes "made"
name_of departures.KeepOwner = codes "keep-owner"
name_of departures.Extensions = codes "extensions"
name_of departures.Lsetstat = codes "lsetstat"
name_of departures.CopyData = codes "copy-data"
name_of departures.Denied = codes "denied"
name_of departures.Full = codes "full"

-- the profile with a departure accepted, or not
abbrev pub switched : Profile → Departure → Bool → Profile
switched profile departures.Codes is_on = record profile { codes = is_on }
switched profile departures.Slash is_on = record profile { slash = is_on }
switched profile departures.Limits is_on = record profile { limits = is_on }
switched profile departures.Flags is_on = record profile { flags = is_on }
switched profile departures.HardlinkLink is_on = record profile { hardlink_link = is_on }
switched profile departures.Realpath is_on = record profile { realpath = is_on }
switched profile departures.Read is_on = record profile { read = is_on }
switched profile departures.EmptySetstat is_on = record profile { empty_setstat = is_on }
switched profile departures.Dots is_on = record profile { dots = is_on }
switched profile departures.DirSize is_on = record profile { dir_size = is_on }
switched profile departures.SetId is_on = record profile { set_id = is_on }
switched profile departures.LinkAttrs is_on = record profile { link_attrs = is_on }
switched profile departures.Special is_on = record profile { special = is_on }
switched profile departures.OpenDir is_on = record profile { open_dir = is_on }
switched profile departures.Listing is_on = record profile { listing = is_on }
switched profile departures.Made is_on = record profile { made = is_on }
switched profile departures.KeepOwner is_on = record profile { keep_owner = is_on }
switched profile departures.Extensions is_on = record profile { extensions = is_on }
switched profile departures.Lsetstat is_on = record profile { lsetstat = is_on }
switched profile departures.CopyData is_on = record profile { copy_data = is_on }
switched profile departures.Denied is_on = record profile { denied = is_on }
switched profile departures.Full is_on = record profile { full = is_on }

abbrev pub every_departure : List Departure
every_departure =
    departures.Codes ∷ departures.Slash ∷ departures.Limits ∷ departures.Flags ∷ departures.HardlinkLink
    ∷ departures.Realpath ∷ departures.Read ∷ departures.EmptySetstat ∷ departures.Dots ∷ departures.DirSize
    ∷ departures.SetId ∷ departures.LinkAttrs ∷ departures.Special ∷ departures.OpenDir ∷ departures.Listing
    ∷ departures.Made ∷ departures.KeepOwner ∷ departures.Extensions ∷ departures.Lsetstat ∷ departures.CopyData
    ∷ departures.Denied ∷ departures.Full ∷ []

-- the departure of a name
unfoldable pub departure_of : List ℕ → Option Departure
departure_of name = find (λ departure. bytes_eq (name_of departure) name) every_departure

-- the profile with the departure of a name accepted, or not; `None` if no departure has the name
abbrev pub with_name : Profile → List ℕ → Bool → Option Profile
with_name profile name is_on = option_map (λ departure. switched profile departure is_on) (departure_of name)

-- ==== Directories that are open, and what becomes of them when names change (POSIX, open, readdir and rename).

-- ---- by their handles

abbrev pub is_under : List ℕ → Directory → Bool
is_under handle directory = same_bytes handle directory.handle

-- the first one that is open under a handle
unfoldable pub directory_at : List Directory → List ℕ → Option Directory
directory_at [] handle = None
directory_at (d ∷ ds) handle = if is_under handle d then Some d else directory_at ds handle

-- the others
abbrev pub without_handle : List Directory → List ℕ → List Directory
without_handle directories handle = filter (λ d. not (is_under handle d)) directories

-- ---- names that a listing gives

-- without a name
abbrev pub struck_name : Directory → Name → Directory
struck_name directory name = record directory {
  must = without name_cmp directory.must name;
  fresh = without name_cmp directory.fresh name;
}

-- bytes that are no name are none that was left
abbrev pub struck_bytes : Directory → List ℕ → Directory
struck_bytes directory bytes = if is_name bytes then struck_name directory bytes else directory

unfoldable pub struck_names : Directory → List Name → Directory
struck_names directory [] = directory
struck_names directory (name ∷ names) = struck_names (struck_bytes directory name) names

-- the one under the handle has given these names
abbrev pub given_by : List ℕ → List Name → Directory → Directory
given_by handle names directory = if is_under handle directory then struck_names directory names else directory

-- ---- names that come and go

-- the last name of a place that is right below another
abbrev pub name_below : Place → Place → Option Name
name_below top place =
    if begins top place && length place == length top + 1 then slice_get place (length top) else None

abbrev pub name_between : Option Place → Option Place → Option Name
name_between (Some top) (Some place) = name_below top place
name_between None place = None
name_between (Some top) None = None

-- where the directory of a listing is
abbrev pub listed_place : Directory → Option Place
listed_place directory = if directory.is_listed then directory.place else None

-- a name of it is gone
abbrev pub lost : Directory → Option Name → Directory
lost directory (Some name) = struck_name directory name
lost directory None = directory

-- a name of it is new
abbrev pub gained : Directory → Option Name → Directory
gained directory (Some name) = record directory {
  must = without name_cmp directory.must name;
  fresh = put name_cmp directory.fresh name no_attributes;
}
gained directory None = directory

-- its names after what is gone, and what is new
abbrev pub renewed : Shift → Directory → Directory
renewed shift directory =
    gained (lost directory (name_between (listed_place directory) shift.gone))
    (name_between (listed_place directory) shift.come)

-- ---- directories that move, or are removed

-- where it goes with what is gone from one place, and comes to another, if it does
abbrev pub carried : Place → Option Place → Place → Option Place
carried gone (Some come) place = Some (come ++ drop (length gone) place)
carried gone None place = None

-- what comes to its place replaces it
abbrev pub unless_replaced : Option Place → Place → Option Place
unless_replaced (Some come) place = if begins come place then None else Some place
unless_replaced None place = Some place

abbrev pub place_by : Option Place → Option Place → Place → Option Place
place_by (Some gone) come place = if begins gone place then carried gone come place else unless_replaced come place
place_by None come place = unless_replaced come place

abbrev pub place_after : Shift → Option Place → Option Place
place_after shift (Some place) = place_by shift.gone shift.come place
place_after shift None = None

-- its names and its place after that
abbrev pub shifted : Shift → Directory → Directory
shifted shift directory = record (renewed shift directory) { place = place_after shift directory.place }
