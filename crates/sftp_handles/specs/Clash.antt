-- When two requests conflict, and so are done in the order asked. The draft asks that requests on one file are
-- processed in the order received, with the results as if each had waited for the reply to the one before; those that
-- do not overlap may run in parallel (draft-ietf-secsh-filexfer-02, section 6.1). What a request touches is this
-- profile's own. `clash` goes by that alone; `range_clash` also compares the ranges of those that share a file, and the
-- server goes by that. That files share room, where the tree bounds the bytes of all of them, is this profile's own,
-- too.
use Rattle.std.specs.Prelude.{◌≡◌, ℕ, ◌<◌, ◌^◌, Bool, true, false, List, IfSome, IsTrue, ◌==◌, if◌then◌else◌, Option}
use Rattle.std.specs.Prelude.{Some, None, [], ◌&&◌, ◌||◌, not, nat_lt, nat_le, ◌+◌, min, length}
use Rattle.sftp_packets.specs.declared.requests.Ask.{Ask}
use Rattle.sftp_packets.specs.declared.requests.Ask.TheVariants as asks
use Rattle.sftp_packets.specs.declared.replies.Answer.TheVariants.{Handle}
use Rattle.sftp_packets.specs.declared.packets.Packet.TheVariants.{Reply as reply_packet}
use Rattle.sftp_packets.specs.declared.packets.Request.{Request}
use Rattle.sftp_packets.specs.declared.packets.Reply.{Reply}
use Rattle.sftp_packets.specs.Packets.{HasSpelling}
use Rattle.sftp_treefile.specs.TreeFile.{are_bytes, are_far}
use Rattle.sftp_tree.specs.Requests.{path_of, outcome}
use Rattle.sftp_handles.specs.declared.opens.Open.{Open}
use Rattle.sftp_handles.specs.State.{with_open, open_at}
use Rattle.sftp_handles.specs.State.{State, settled}
use Rattle.sftp_handles.specs.Allowed.{after}
use Rattle.sftp_handles.specs.Allowed.{Allowed}
use Rattle.sftp_packets.specs.Requests.{asked_handle}
use Rattle.sftp_path.specs.Place.{same_bytes}
use Rattle.sftp_handles.specs.declared.opens.Open.TheVariants.{File, Listing}
use Rattle.sftp_handles.specs.State.{Needed, anything, a_file, a_listing, Seen, file, seen}
use Rattle.sftp_handles.specs.RequestRows.{row_of, goes_to_end}
use Rattle.sftp_handles.specs.declared.touch.Touch.{Touch}
use Rattle.sftp_handles.specs.declared.touch.Touch.TheVariants.{Nothing, ReadsFile, WritesFile, TakesNames, Everything}
use Rattle.sftp_packets.specs.declared.open_flags.OpenFlags.{OpenFlags}
use Rattle.sftp_treefile.specs.declared.limits.TreeLimits.{TreeLimits}
use Rattle.sftp_tree.specs.Tree.{limits}
use Rattle.sftp_handles.specs.declared.byte_range.ByteRange.{ByteRange}

-- ==== What the laws of steps name.

-- ---- requests that can be answered

-- that the id has 32 bits and the path is bytes holds of every value of its type
pub record IsAskable (request : Request) : Type 0 where
  pub id : request.id < 2 ^ 32
  pub path : IfSome (path_of request.ask) (λ path. IsTrue (are_bytes path))

-- some reply to the request is allowed and has a spelling
pub record IsAnswerable (s : State) (request : Request) : Type 0 where
  pub reply : Reply
  pub end : State
  pub allowed : Allowed s request reply end
  pub spelled : HasSpelling (reply_packet reply)

-- ---- requests that open something

-- whether a request is answered by a new handle
abbrev pub is_opening : Ask → Bool
is_opening (asks.Open path pflags attrs) = true
is_opening (asks.Opendir path) = true
is_opening other = false

-- The state that such a request asks for, with this open under the new handle. Files that nothing holds any more still
-- exist in it.
abbrev pub asked_state : State → Ask → List ℕ → Open → State
asked_state s ask handle it = record { tree = outcome s.tree ask; handles = with_open s.handles handle it }

-- The state after such a request, answered by this handle, is the state asked for in which this is open under it; files
-- that nothing holds any more are removed.
abbrev pub IsOpenedBy : State → Ask → List ℕ → Open → Type 0
IsOpenedBy s ask handle it =
    after s ask (Handle handle)
    ≡ settled (asked_state s ask handle it).tree (asked_state s ask handle it).handles

-- what a request touches
pub data Touched : Type 0 where
  -- nothing
  untouched : Touched
  -- the file of a number, which it only reads
  reads_file : ℕ → Touched
  -- the file of a number, which it may change
  writes_file : ℕ → Touched
  -- the listing under a handle, of which it takes names
  takes_names : List ℕ → Touched
  -- the whole state
  everything : Touched

-- whether a request through a handle may change its file
abbrev pub may_change : Ask → Bool
may_change (asks.Write handle offset bytes) = true
may_change (asks.Fsetstat handle attrs) = true
may_change other = false

-- A request touches what is open under its handle, if that is of the kind that it needs, however it was opened. CLOSE,
-- which takes a handle of either kind, touches everything, also if the handle is not open.
abbrev pub touched_through : Needed → Bool → List ℕ → Option Open → Touched
touched_through anything changes handle found = everything
touched_through a_file changes handle None = untouched
touched_through a_file changes handle (Some (File number flags)) =
    if changes then writes_file number else reads_file number
touched_through a_file changes handle (Some (Listing left)) = untouched
touched_through a_listing changes handle None = untouched
touched_through a_listing changes handle (Some (File number flags)) = untouched
touched_through a_listing changes handle (Some (Listing left)) = takes_names handle

-- a request that names no handle touches everything
abbrev pub touched_by : State → Ask → Option (List ℕ) → Touched
touched_by s ask None = everything
touched_by s ask (Some handle) =
    touched_through (row_of ask).needed (may_change ask) handle (open_at s.handles handle)

-- whether a request through a handle under which it needs this touches everything in every state
abbrev pub bars : Needed → Bool
bars anything = true
bars other = false

-- the same of any request; one that names no handle touches everything
abbrev pub bars_by : Option (List ℕ) → Needed → Bool
bars_by None needed = true
bars_by (Some handle) needed = bars needed

-- so all do but those that need a file or a listing under their handle
abbrev pub is_barrier : Ask → Bool
is_barrier ask = bars_by (asked_handle ask) (row_of ask).needed

-- what a request touches in a state
unfoldable pub touched : State → Ask → Touched
touched s ask = touched_by s ask (asked_handle ask)

-- whether one is everything, or both are one thing and not both only read it
abbrev pub share : Touched → Touched → Bool
share everything other = true
share other everything = true
share (reads_file number) (writes_file other) = number == other
share (writes_file number) (reads_file other) = number == other
share (writes_file number) (writes_file other) = number == other
share (takes_names handle) (takes_names other) = same_bytes handle other
share _ _ = false

-- whether both may change a file, and not the same one: then each may take room that the other needs
abbrev pub share_room : Touched → Touched → Bool
share_room (writes_file number) (writes_file other) = not (number == other)
share_room _ _ = false

-- the same where the limits bound the bytes of all files together; those of the first two openings leave each file room
-- for all that it may have, whatever the others have
abbrev pub room_clash : TreeLimits → Touched → Touched → Bool
room_clash bounds at other = are_far bounds && share_room at other

-- whether two requests conflict by what they touch alone, whatever their ranges
unfoldable pub clash : State → Request → Request → Bool
clash s request other =
    room_clash (limits s.tree) (touched s request.ask) (touched s other.ask)
    || share (touched s request.ask) (touched s other.ask)

-- one request is done first and the other after it, with these replies and this end
pub record ComesFirst (s : State) (request other : Request) (reply other_reply : Reply) (end : State) : Type 0 where
  pub between : State
  pub first : Allowed s request reply between
  pub second : Allowed between other other_reply end

-- ==== What a touch, which the code keeps of a request, says of it.

abbrev pub handle_in : Option (List ℕ) → List ℕ
handle_in None = []
handle_in (Some handle) = handle

-- what it says of the request that it was kept of; the listing is the one under the request's own handle
abbrev pub touched_as : Touch → Ask → Touched
touched_as Nothing ask = untouched
touched_as (ReadsFile number) ask = reads_file number
touched_as (WritesFile number) ask = writes_file number
touched_as TakesNames ask = takes_names (handle_in (asked_handle ask))
touched_as Everything ask = everything

-- ==== When two requests on one file do not conflict, since they keep to ranges of it that do not meet
-- (draft-ietf-secsh-filexfer-02, section 6.1: requests on one file that do not overlap may be done in any order). That
-- both ranges must end within the file is this profile's own.

-- ---- the range of a request

-- of a WRITE, by whether each WRITE through its handle goes to the end
abbrev pub written_span : Bool → ℕ → ℕ → Option (ℕ × ℕ)
written_span true offset count = None
written_span false offset count = Some (offset, offset + count)

-- Where the bytes start that a request reads or writes, and where they end: the first offset after them. Of a READ it
-- is the bytes asked for, up to the tree's limit of one READ, whether the file has them or not. Only READ has such a
-- span, and WRITE through a handle without APPEND.
abbrev pub span : TreeLimits → Ask → OpenFlags → Option (ℕ × ℕ)
span bounds (asks.Read handle offset len) flags = Some (offset, offset + min len bounds.read_bytes)
span bounds (asks.Write handle offset bytes) flags = written_span (goes_to_end flags) offset (length bytes)
span bounds other flags = None

abbrev pub range_from : ℕ → ℕ × ℕ → ByteRange
range_from number ends = record { number = number; start = ends.0; end = ends.1 }

abbrev pub range_if : Bool → ℕ → ℕ × ℕ → Option ByteRange
range_if true number ends = Some (range_from number ends)
range_if false number ends = None

-- a span of a file of this number and size, if it ends within the file
abbrev pub range_within : ℕ → ℕ → Option (ℕ × ℕ) → Option ByteRange
range_within number size None = None
range_within number size (Some ends) = range_if (nat_le ends.1 size) number ends

abbrev pub range_of : TreeLimits → Ask → Seen → Option ByteRange
range_of bounds ask (file number flags before) = range_within number (length before.bytes) (span bounds ask flags)
range_of bounds ask other = None

abbrev pub range_by : State → Ask → Option (List ℕ) → Option ByteRange
range_by s ask None = None
range_by s ask (Some handle) = range_of (limits s.tree) ask (seen s (row_of ask).needed handle)

-- the range that a request keeps to, if it keeps to one within its file
unfoldable pub range : State → Ask → Option ByteRange
range s ask = range_by s ask (asked_handle ask)

-- whether a request that touches this and keeps to this range may change the length of its file: it may change the
-- file, and keeps to no range within it
abbrev pub may_resize : Touched → Option ByteRange → Bool
may_resize (writes_file number) None = true
may_resize _ _ = false

-- ---- conflicts

-- whether both have bytes, and each starts before the other ends; an empty range meets nothing
abbrev pub meet : ByteRange → ByteRange → Bool
meet a b =
    (nat_lt a.start a.end && nat_lt b.start b.end) && (nat_lt a.start b.end && nat_lt b.start a.end)

-- whether both requests keep to ranges of one file that do not meet
abbrev pub are_apart : Option ByteRange → Option ByteRange → Bool
are_apart (Some a) (Some b) = a.number == b.number && not (meet a b)
are_apart _ _ = false

-- whether two requests have to be done in the order asked, if those of one file whose ranges do not meet may change
-- places
unfoldable pub range_clash : State → Request → Request → Bool
range_clash s request other =
    room_clash (limits s.tree) (touched s request.ask) (touched s other.ask)
    || (share (touched s request.ask) (touched s other.ask)
    && not (are_apart (range s request.ask) (range s other.ask)))
