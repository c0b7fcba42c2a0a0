-- Why nothing is opened. Words of private contracts.
use Rattle.std.specs.Prelude.{ℕ, Bool, false, List, Result, Ok, Err, IsTrue, Option, Some, None}
use Rattle.sftp_packets.specs.declared.requests.Ask.{Ask}
use Rattle.sftp_path.specs.declared.errors.NoMemory.{NoMemory}
use Rattle.sftp_tree.specs.declared.causes.Refused.TheVariants as refusals
use Rattle.sftp_handles.specs.declared.not_opened.NotOpened.{NotOpened}
use Rattle.sftp_handles.specs.declared.not_opened.NotOpened.TheVariants.{Taken, Refused}
use Rattle.sftp_tree.specs.Tree.{Tree}
use Rattle.sftp_handles.specs.State.{Handles, is_open}
use Rattle.sftp_handles.specs.State.{State}
use Rattle.sftp_handles.specs.Slots.{IsRefusal}
use Rattle.sftp_packets.specs.declared.packets.Packet.{Packet}
use Rattle.sftp_packets.specs.declared.packets.Packet.TheVariants as packets
use Rattle.sftp_packets.specs.declared.packets.Reply.{Reply}

-- the state of a session that has this tree, and in whose table this is open
abbrev pub session_of : Tree → Handles → State
session_of tree handles = record { tree = tree; handles = handles }

-- the name that is wanted is open, or the request is refused
abbrev pub IsNotOpened : State → Ask → List ℕ → NotOpened → Type 0
IsNotOpened s ask want Taken = IsTrue (is_open s.handles want)
IsNotOpened s ask want (Refused refused) = IsRefusal s ask refused

-- what that says of a HANDLE: it is not allowed, but where memory ran out nothing is known
abbrev pub not_opened : NotOpened → Result Bool NoMemory
not_opened Taken = Ok false
not_opened (Refused (refusals.Cause cause)) = Ok false
not_opened (Refused refusals.NoMemory) = Err (record {})

-- ==== Replies that are proposed. Words of private contracts.

-- the reply that a packet is, if it is one
abbrev pub reply_in : Packet → Option Reply
reply_in (packets.Reply reply) = Some reply
reply_in other = None
