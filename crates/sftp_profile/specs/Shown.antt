-- What is shown of the entries of a session. A profile takes from it the fields that it leaves free.
use Rattle.std.specs.Prelude.{ℕ, if◌then◌else◌, List, Option, Some, None}
use Rattle.sftp_packets.specs.declared.attributes.Attrs.{Attrs}
use Rattle.sftp_packets.specs.declared.requests.Ask.{Ask}
use Rattle.sftp_packets.specs.declared.requests.Ask.TheVariants as asks
use Rattle.sftp_path.specs.Place.{name_cmp, is_name}
use Rattle.sftp_path.specs.Table.{get}
use Rattle.sftp_tree.specs.Tree.{Tree}
use Rattle.sftp_tree.specs.PlaceCauses.{is_none}
use Rattle.sftp_tree.specs.Requests as paths
use Rattle.sftp_tree.specs.Told as told
use Rattle.sftp_handles.specs.State.{Left, open_at}
use Rattle.sftp_handles.specs.State.{State}
use Rattle.sftp_handles.specs.Replies.{Said, shows}
use Rattle.sftp_handles.specs.Allowed.{causes, said_to}
use Rattle.sftp_handles.specs.Slots.{listing_in}

-- ---- attributes

-- the attributes that a STAT or an LSTAT shows, if no cause refuses it
abbrev pub shown_at : Tree → Ask → Option Attrs
shown_at t ask = if is_none (paths.causes t ask) then told.shown_to t ask else None

abbrev pub attributes_in : Said → Option Attrs
attributes_in (shows shown) = shown
attributes_in other = None

-- those that an FSTAT shows, if no cause refuses it
abbrev pub shown_open : State → List ℕ → Option Attrs
shown_open s handle =
    if is_none (causes s (asks.Fstat handle)) then attributes_in (said_to s (asks.Fstat handle) (Some handle)) else None

-- the attributes that a request asks for
abbrev pub shown_in : State → Ask → Option Attrs
shown_in s (asks.Stat path) = shown_at s.tree (asks.Stat path)
shown_in s (asks.Lstat path) = shown_at s.tree (asks.Lstat path)
shown_in s (asks.Fstat handle) = shown_open s handle
shown_in s other = None

-- ---- listings

-- what the listing that a READDIR asks for still has to give
abbrev pub left_of : State → Ask → Option Left
left_of s (asks.Readdir handle) = listing_in (open_at s.handles handle)
left_of s other = None

-- the attributes of a name that is left
abbrev pub shown_left : Option Left → List ℕ → Option Attrs
shown_left (Some left) name = if is_name name then get name_cmp left name else None
shown_left None name = None
