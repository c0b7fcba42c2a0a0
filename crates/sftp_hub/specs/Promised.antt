-- What a server of several clients promises of the frames that it reads and writes, and of the tree that it leaves.
-- This profile's own.
use Rattle.std.specs.Prelude.{◌≡◌, ◌≢◌, ◌⊎◌, ℕ, List, [], ◌∷◌, ◌++◌, length, Option, Some, None}
use Rattle.std.specs.List.{AllByRecursion}
use Rattle.std.specs.Io.KnownBytes.{Appends, Consumes, IsAtEnd}
use Rattle.sftp_packets.specs.declared.packets.Packet.{Packet}
use Rattle.sftp_packets.specs.declared.packets.Request.{Request}
use Rattle.sftp_packets.specs.declared.packets.Reply.{Reply}
use Rattle.sftp_packets.specs.declared.packets.Side.TheVariants.{Server}
use Rattle.sftp_packets.specs.Packets.{spelling, side_of}
use Rattle.sftp_wire.specs.Fronts.{place_after}
use Rattle.sftp_transcript.specs.declared.events.Event.TheVariants.{Asked, Replied}
use Rattle.sftp_transcript.specs.Explained.{next_reply}
use Rattle.sftp_tree.specs.Tree.{Tree}
use Rattle.sftp_handles.specs.State.{State, started, closed_tree}
use Rattle.sftp_handles.specs.Allowed.{Allowed}
use Rattle.sftp_server.specs.declared.ends.Stream.{Stream}
use Rattle.sftp_server.specs.declared.ends.Stream.TheVariants as streams
use Rattle.sftp_server.specs.Served.{Setup, IsBeginning, failures_if, is_same_stream}
use Rattle.sftp_joint.specs.Deeds.{Happening, did, left, events_of, Deed, answered, departed, RunTogether, AreServed}
use Rattle.sftp_shared.specs.Sharing.{left_by, AreServedOn}
use Rattle.sftp_frames.specs.Frames.{Frame, IsFrame, frames_text, AreInTime}
use Rattle.sftp_frames.specs.Fronts.{IsPart, IsTooLong}
use Rattle.sftp_frames.specs.Writing.{AreFramesOf}
use Rattle.sftp_hub.specs.Clients.{HasTaken, HasWritten}
use Rattle.sftp_hub.specs.declared.ends.FrameFault.{FrameFault}
use Rattle.sftp_hub.specs.declared.ends.FrameFault.TheVariants as faults
use Rattle.sftp_hub.specs.declared.ends.HubEnded.{HubEnded}
use Rattle.sftp_hub.specs.declared.ends.HubEnded.TheVariants as ends

-- ---- the order taken

-- A beginning of what happened took from the first of the frames what there was to take, of every client.
pub record HasTakenFirst (version : Packet) (frames : List Frame) (happenings : List Happening) : Type 0 where
  pub earlier : List Happening
  pub later : List Happening
  pub parts : happenings ≡ earlier ++ later
  pub each : (client : ℕ) → HasTaken version frames earlier client

-- The order taken is the order of arrival: however many frames came, all packets that were complete in them, and the
-- ends of sessions, come before all that was complete later.
abbrev pub IsOrderOfArrival : Packet → List Frame → List Happening → Type 0
IsOrderOfArrival version frames happenings =
    (before behind : List Frame) → frames ≡ before ++ behind → HasTakenFirst version before happenings

-- ---- the whole, where no stream failed and memory sufficed

-- What was read and written as frames, and the tree at the end. Each client's part is that of a session of its own. All
-- sessions are served on one tree, in the order of arrival. What a client did or broke is said of that client alone.
pub record AreServedAll (start : Setup) (frames : List Frame) (output : List ℕ) (end : Tree) : Type 0 where
  pub written : List Frame
  pub happenings : List Happening
  pub written_fit : AllByRecursion IsFrame written
  pub written_in_time : AreInTime written
  pub output_is : output ≡ frames_text written
  pub each : (client : ℕ) → HasWritten start.version frames written happenings client
  pub in_order : IsOrderOfArrival start.version frames happenings
  pub served : AreServedOn start.tree happenings end

-- how the input broke the frames, at this place. `over`: the input has ended
abbrev pub BreaksFrames : List ℕ → ℕ → Type 0 → FrameFault → Type 0
BreaksFrames rest place over (faults.TooLong at) = IsTooLong rest × (at ≡ place)
BreaksFrames rest place over (faults.Cut at) = over × (rest ≢ []) × IsPart rest × (at ≡ place)

-- the input ended after a whole frame
pub record IsFinished (start : Setup) (input : List ℕ) (over : Type 0) (output : List ℕ) (end : Tree) : Type 0 where
  pub frames : List Frame
  pub fit : AllByRecursion IsFrame frames
  pub read : input ≡ frames_text frames
  pub ended : over
  pub served : AreServedAll start frames output end

-- the input broke the frames: what came before is served to its end
pub record IsFaulty (start : Setup) (input : List ℕ) (over : Type 0) (output : List ℕ) (end : Tree)
    (fault : FrameFault) : Type 0 where
  pub frames : List Frame
  pub rest : List ℕ
  pub fit : AllByRecursion IsFrame frames
  pub read : input ≡ frames_text frames ++ rest
  pub fault_is : BreaksFrames rest (place_after 0 (length (frames_text frames))) over fault
  pub served : AreServedAll start frames output end

-- ---- a beginning of the whole, where a stream failed or memory ran out

-- The deeds so far: each request whose reply was sent, with that reply; some of the others, each with a reply; and the
-- ends of sessions.
abbrev pub IsDone : ℕ → Request → Option Reply → (List Deed → Type 0) → List Deed → Type 0
IsDone client request (Some reply) others deeds =
    (later : List Deed) × (deeds ≡ answered client request reply ∷ later) × others later
IsDone client request None others deeds =
    others deeds
    ⊎ ((reply : Reply) × (later : List Deed) × (deeds ≡ answered client request reply ∷ later) × others later)

unfoldable pub AreDone : List Happening → List Deed → Type 0
AreDone [] deeds = deeds ≡ []
AreDone (did client (Asked request) ∷ happenings) deeds =
    IsDone client request (next_reply request.id (events_of client happenings)) (AreDone happenings) deeds
AreDone (did client (Replied reply) ∷ happenings) deeds = AreDone happenings deeds
AreDone (left client ∷ happenings) deeds =
    (later : List Deed) × (deeds ≡ departed client ∷ later) × AreDone happenings later

-- the deeds so far lead from the starting tree to this one, once nothing is open
pub record IsAfterDeeds (start : Tree) (happenings : List Happening) (end : Tree) : Type 0 where
  pub deeds : List Deed
  pub done : AreDone happenings deeds
  pub last : State
  pub run : RunTogether Allowed left_by (started start) deeds last
  pub end_is : end ≡ closed_tree last

-- what happened is a beginning of what a server does
pub record BeginsServed (start : Tree) (happenings : List Happening) : Type 0 where
  pub more : List Happening
  pub last : State
  pub served : AreServed Allowed left_by (started start) (happenings ++ more) last

-- a beginning of the frames; of the last one it may have a beginning
abbrev pub CutsNext : List Frame → List Frame → Type 0
CutsNext behind cut =
    (cut ≡ [])
    ⊎ ((client : ℕ) × (part : List ℕ) × (more : List ℕ) × (others : List Frame)
    × (behind ≡ (client, part ++ more) ∷ others) × (part ≢ []) × (cut ≡ (client, part) ∷ []))

pub record IsBeginningOf (frames taken : List Frame) : Type 0 where
  pub before : List Frame
  pub behind : List Frame
  pub cut : List Frame
  pub frames_are : frames ≡ before ++ behind
  pub cuts : CutsNext behind cut
  pub taken_is : taken ≡ before ++ cut

-- the frames of one packet to a client, or the end of its stream
abbrev pub AreOneWrite : List Frame → Type 0
AreOneWrite frames =
    ((client : ℕ) × (packet : Packet) × (side_of packet ≡ Server) × AreFramesOf client (spelling packet) frames)
    ⊎ ((client : ℕ) × (frames ≡ (client, []) ∷ []))

-- how far the last write came: to a place where the writer failed, and else to its end
abbrev pub IsCutIn : HubEnded → List Frame → List ℕ → Type 0
IsCutIn (ends.Io streams.Writer) last cut = (last ≡ []) ⊎ AreOneWrite last × IsBeginning cut (frames_text last)
IsCutIn other last cut = (last ≡ []) × (cut ≡ [])

-- What was read and written, and the tree that is left. Of the frames read a beginning was taken, in the order of
-- arrival; what that asks to be written was written, but for a last write, of which a beginning may be.
pub record IsStopped (start : Setup) (input output : List ℕ) (ended : HubEnded) (end : Tree) : Type 0 where
  pub frames : List Frame
  pub rest : List ℕ
  pub fit : AllByRecursion IsFrame frames
  pub read : input ≡ frames_text frames ++ rest
  pub taken : List Frame
  pub is_taken : IsBeginningOf frames taken
  pub happenings : List Happening
  pub written : List Frame
  pub last : List Frame
  pub cut : List ℕ
  pub written_fit : AllByRecursion IsFrame (written ++ last)
  pub written_in_time : AreInTime (written ++ last)
  pub output_is : output ≡ frames_text written ++ cut
  pub cut_is : IsCutIn ended last cut
  pub each : (client : ℕ) → HasWritten start.version taken (written ++ last) happenings client
  pub in_order : IsOrderOfArrival start.version taken happenings
  pub begun : BeginsServed start.tree happenings
  pub leads : IsAfterDeeds start.tree happenings end

-- it has no tree only if it stopped before it read anything
abbrev pub IsStoppedSo : Setup → List ℕ → List ℕ → HubEnded → Option Tree → Type 0
IsStoppedSo start input output ended None = (ended ≡ ends.NoMemory) × (input ≡ []) × (output ≡ [])
IsStoppedSo start input output ended (Some end) = IsStopped start input output ended end

-- ---- what is promised

-- What was read of the input, what was written, how it ended, and the tree that is kept if it was stopped. `over`: the
-- input has ended.
abbrev pub ServedMany : Setup → List ℕ → Type 0 → List ℕ → HubEnded → Option Tree → Type 0
ServedMany start input over output (ends.Finished end) kept = IsFinished start input over output end × (kept ≡ None)
ServedMany start input over output (ends.Fault end fault) kept =
    IsFaulty start input over output end fault × (kept ≡ None)
ServedMany start input over output (ends.Io stream) kept = IsStoppedSo start input output (ends.Io stream) kept
ServedMany start input over output ends.NoMemory kept = IsStoppedSo start input output ends.NoMemory kept

-- the bytes that the input has left, and those written, each where they are known, between two moments: what was read
-- and written is that of a server that started and ended so
pub record ServesMany (start : Setup) (left0 left1 written0 written1 : Option (List ℕ)) (ended : HubEnded)
    (kept : Option Tree) : Type 0 where
  pub input : List ℕ
  pub output : List ℕ
  pub read : Consumes left0 left1 input
  pub written : Appends written0 written1 output
  pub served : ServedMany start input (IsAtEnd left1) output ended kept

-- the failures of a stream after that: one more if it is why the server ended, and no more if not
abbrev pub CountsHub : Stream → HubEnded → ℕ → ℕ → Type 0
CountsHub stream (ends.Io failed) old new = new ≡ failures_if (is_same_stream stream failed) old
CountsHub stream other old new = new ≡ old
