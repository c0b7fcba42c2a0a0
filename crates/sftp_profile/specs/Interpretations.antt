-- What a profile takes a request for, where it is not allowed as it stands.
use Rattle.std.specs.Prelude.{◌&&◌, ℕ, if◌then◌else◌, List, Option, Some, None}
use Rattle.std.specs.Option.{option_map}
use Rattle.sftp_packets.specs.declared.attributes.Attrs.{Attrs}
use Rattle.sftp_packets.specs.declared.requests.Ask.{Ask}
use Rattle.sftp_packets.specs.declared.requests.Ask.TheVariants as asks
use Rattle.sftp_tree.specs.Tree.{Tree}
use Rattle.sftp_tree.specs.PlaceCauses.{is_none}
use Rattle.sftp_tree.specs.Requests.{causes}
use Rattle.sftp_tree.specs.Told.{text_to}
use Rattle.sftp_handles.specs.State.{State}
use Rattle.sftp_profile.specs.declared.profiles.Profile.{Profile}
use Rattle.sftp_profile.specs.BytesRead.{is_loose}
use Rattle.sftp_profile.specs.BytesRead.{mended_flags, empties}
use Rattle.sftp_profile.specs.Replaced.{set_as}
use Rattle.sftp_profile.specs.Departures.{copied_as}

-- the target of the link at a path; `None` if READLINK of the path is refused
abbrev pub link_at : Tree → List ℕ → Option (List ℕ)
link_at t path = if is_none (causes t (asks.Readlink path)) then text_to t (asks.Readlink path) else None

abbrev pub first_ask : Option Ask → Option Ask → Option Ask
first_ask (Some ask) other = Some ask
first_ask None other = other

-- what an extension is taken for
abbrev pub asked_extension : Profile → State → Ask → Option Ask
asked_extension profile s ask =
    first_ask (if profile.lsetstat then set_as profile s ask else None)
    (if profile.copy_data then copied_as s ask else None)

-- an LSTAT of a path that ends loosely is a STAT,
-- an OPEN has the flags that a file system goes by,
-- a hardlink of a link is a SYMLINK with its target,
-- an lsetstat is a SETSTAT, and a copy-data a WRITE
abbrev pub asked : Profile → State → Ask → Option Ask
asked profile s (asks.Lstat path) = if profile.slash && is_loose path then Some (asks.Stat path) else None
asked profile s (asks.Open path pflags attrs) =
    if profile.flags then Some (asks.Open path (mended_flags pflags) attrs) else None
asked profile s (asks.Hardlink oldpath newpath) =
    if profile.hardlink_link then option_map (λ target. asks.Symlink target newpath) (link_at s.tree oldpath) else None
asked profile s (asks.Unknown name rest) = asked_extension profile s (asks.Unknown name rest)
asked profile s other = None

-- attributes of a file without bytes
abbrev pub emptied : Attrs
emptied = record { size = Some 0; owner = None; permissions = None; times = None; extended = None }

-- the SETSTAT that comes with an OPEN which empties a file, unless it both makes and writes it
abbrev pub followed : Profile → Ask → Option Ask
followed profile (asks.Open path pflags attrs) =
    if profile.flags && empties pflags then Some (asks.Setstat path emptied) else None
followed profile other = None
