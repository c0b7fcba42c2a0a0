-- A session of the server while it runs: what it read, wrote and logged since it began, and which requests it has
-- (draft-ietf-secsh-filexfer-02, sections 3 to 7). Words of private contracts: no public one reaches this file.
use Rattle.std.specs.Prelude.{ℕ, false, Option, Some, None, ◌≡◌, ◌≢◌, ◌⊎◌, List, []}
use Rattle.std.specs.Prelude.{◌++◌, length, Result, Err, MatchResult, IsTrue, drop}
use Rattle.sftp_handles.specs.State.{State, Good, started, closed_tree}
use Rattle.std.specs.List.{AllByRecursion}
use Rattle.std.specs.Io.KnownBytes.{Appends, IsAtEnd, Keeps}
use Rattle.sftp_packets.specs.declared.errors.WireError.TheVariants.{Unreadable}
use Rattle.sftp_packets.specs.declared.packets.Packet.{Packet}
use Rattle.sftp_packets.specs.declared.packets.Side.TheVariants.{Client, Server}
use Rattle.sftp_packets.specs.Spelling.{packet_limit}
use Rattle.sftp_packets.specs.Packets.{spelling}
use Rattle.sftp_wire.specs.Fronts.{front_of, place_after}
use Rattle.sftp_transcript.specs.declared.events.Event.{Event}
use Rattle.sftp_streams.specs.Streams.{AppendsPart}
use Rattle.sftp_transcript.specs.Log.{Log, opened_text}
use Rattle.sftp_transcript.specs.Transcript.{record_text, IsEvent}
use Rattle.sftp_transcript.specs.Explained.{window}
use Rattle.sftp_tree.specs.Tree.{Tree}
use Rattle.sftp_server.specs.declared.ends.Ended.{Ended}
use Rattle.sftp_server.specs.declared.ends.Ended.TheVariants as ends
use Rattle.sftp_server.specs.declared.ends.SessionEnd.{SessionEnd}
use Rattle.sftp_server.specs.declared.ends.SessionFault.{SessionFault}
use Rattle.sftp_server.specs.declared.ends.SessionFault.TheVariants as faults
use Rattle.sftp_server.specs.declared.ends.Stream.{Stream}
use Rattle.sftp_server.specs.declared.ends.Stream.TheVariants as streams
use Rattle.sftp_server.specs.declared.ends.Stop.{Stop}
use Rattle.sftp_server.specs.declared.ends.Stop.TheVariants as stops
use Rattle.sftp_server.specs.declared.queue.Entry.{Entry}
use Rattle.sftp_server.specs.Machine.{Machine, is_unsent}
use Rattle.sftp_server.specs.Machine.{IsReached}
use Rattle.sftp_server.specs.Served.{session_packets, sent_by, recorded, IsGreeting, answered_last, BeginsWithId}
use Rattle.sftp_server.specs.Served.{BeginsWithInit, EndsSession, StreamBytes, stream_bytes, Passed}
use Rattle.sftp_server.specs.Served.{Setup, ServesFrom, CountsEnd}
use Rattle.sftp_server.specs.Left.{Leaves, LeavesFrom}

-- ---- the whole

-- how many bytes are held at most: as many as the longest packet has. Each read asks for what is left of them
abbrev pub input_limit : ℕ
input_limit = packet_limit

-- a session ended so, and left this tree, if any
abbrev pub IsSessionEnd : Setup → StreamBytes → StreamBytes → SessionEnd → Type 0
IsSessionEnd start past now end =
    ServesFrom start past now end.ended × LeavesFrom start past now end.ended end.left

-- ---- what stops a session before its end

abbrev pub ended_by : Stop → Ended
ended_by (stops.Io stream) = ends.Io stream
ended_by stops.NoMemory = ends.NoMemory

-- a session was stopped so, and left this tree, if any
pub record Stops (start : Setup) (past now : StreamBytes) (stop : Stop) (left : Option Tree) : Type 0 where
  pub served : ServesFrom start past now (ended_by stop)
  pub leaves : Leaves start past now left

-- the tree that a core leaves, once nothing is open
abbrev pub tree_left : Machine State → Option Tree
tree_left core = Some (closed_tree core.state)

-- the failures of a stream after a session stopped: one more if the stream is why, and no more if not
abbrev pub CountsStop : Stream → Stop → ℕ → ℕ → Type 0
CountsStop stream stop old new = CountsEnd stream (ended_by stop) old new

-- the same of a call, which may not stop the session
abbrev pub CountsCall : {A : Type 0} → Stream → Result A Stop → ℕ → ℕ → Type 0
CountsCall stream result old new = MatchResult result (λ _. new ≡ old) (λ stop. CountsStop stream stop old new)

-- the call does not stop the session because of this stream: however often that failed, it is counted so
abbrev pub Spares : {A : Type 0} → Stream → Result A Stop → Type 0
Spares stream result = (count : ℕ) → CountsCall stream result count count

-- each call on the log's stream succeeded so far, and the log has a record
pub record IsLogging (log : Log) : Type 0 where
  pub sound : log.broken ≡ None
  pub begun : log.records ≢ 0

-- ---- a session that is open

-- The client's packet in front of what was read is a fault that ends the session, once each request before it is
-- answered.
abbrev pub IsFaultAhead : List Event → List Entry → List ℕ → ℕ → Option SessionFault → Type 0
IsFaultAhead events queue rest place None = Unit {0}
IsFaultAhead events queue rest place (Some (faults.Wire (Unreadable fault at))) =
    (front_of Client rest ≡ Err fault) × (at ≡ place)
IsFaultAhead events queue rest place (Some (faults.Wire other)) = ⊥
IsFaultAhead events queue rest place (Some (faults.IdInUse id)) =
    BeginsWithId rest id × (IsTrue (is_unsent id queue) ⊎ IsTrue (answered_last id false events))
IsFaultAhead events queue rest place (Some faults.BadInit) = BeginsWithInit rest
IsFaultAhead events queue rest place (Some (faults.Cut at)) = ⊥

-- what a server has read and not taken, and the place in the input of the first of these bytes
pub record Ahead : Type 0 where
  pub held : List ℕ
  pub place : ℕ

abbrev pub ahead_without : ℕ → Ahead → Ahead
ahead_without count a = record { held = drop count a.held; place = place_after a.place count }

-- A session that started so is open. Since it began the client's packets were read, and then what is held; the server's
-- packets were written; and both were logged. The core was reached by the events. `fault`: what was found in front of
-- the bytes held, if a fault was.
pub record IsRunning (start : Setup) (past now : StreamBytes) (ahead : Ahead) (core : Machine State)
    (fault : Option SessionFault) : Type 0 where
  pub init : Packet
  pub events : List Event
  pub good : Good (started start.tree)
  pub greeting : IsGreeting init
  pub spelled : AllByRecursion IsEvent events
  pub reached : IsReached (started start.tree) window events core
  pub passed : Passed past now (sent_by Client (session_packets start init events) ++ ahead.held)
      (sent_by Server (session_packets start init events)) (recorded (session_packets start init events))
  pub place : ahead.place ≡ place_after 0 (length (sent_by Client (session_packets start init events)))
  pub found : IsFaultAhead events core.queue ahead.held ahead.place fault

-- ---- a session that was not opened yet

-- since the session began these bytes were read, nothing was written and nothing was logged
abbrev pub IsUnopenedYet : StreamBytes → StreamBytes → Ahead → Type 0
IsUnopenedYet past now ahead = Passed past now ahead.held [] [] × (ahead.place ≡ 0)

-- the bytes begin with an INIT of version 3 or more, which takes `count` of them
pub record BeginsWithGreeting (bytes : List ℕ) (count : ℕ) : Type 0 where
  pub init : Packet
  pub greeting : IsGreeting init
  pub rest : List ℕ
  pub bytes_are : bytes ≡ spelling init ++ rest
  pub count_is : count ≡ length (spelling init)

-- ---- a session that comes to its end

-- why a session ends: it has a fault, or the input ended and nothing is left of it
abbrev pub IsEnd : List Event → List ℕ → ℕ → Type 0 → Option SessionFault → Type 0
IsEnd events rest place over None = over × (rest ≡ [])
IsEnd events rest place over (Some fault) = EndsSession events rest place over fault

-- the session is open, each request is answered, and it ends so
pub record IsEnding (start : Setup) (past now : StreamBytes) (core : Machine State) (fault : Option SessionFault)
    : Type 0 where
  pub ahead : Ahead
  pub running : IsRunning start past now ahead core None
  pub answered : core.queue ≡ []
  pub why : IsEnd running.events ahead.held ahead.place (IsAtEnd now.left) fault

-- ---- a packet that is sent

-- What was written and logged where a packet could not be sent: nothing where memory ran out, a beginning of the packet
-- where the writer failed, or the packet and a beginning of its record.
abbrev pub FailsToSend : Packet → Option (List ℕ) → Option (List ℕ) → Log → Log → Stop → Type 0
FailsToSend packet written0 written1 log0 log1 (stops.Io streams.Reader) = ⊥
FailsToSend packet written0 written1 log0 log1 (stops.Io streams.Writer) =
    AppendsPart written0 written1 (spelling packet) × Keeps log0.bytes log1.bytes
FailsToSend packet written0 written1 log0 log1 (stops.Io streams.Log) =
    Appends written0 written1 (spelling packet)
    × AppendsPart log0.bytes log1.bytes (opened_text log0.records (record_text packet))
FailsToSend packet written0 written1 log0 log1 stops.NoMemory =
    Keeps written0 written1 × Keeps log0.bytes log1.bytes

-- From a running session, whatever the reader has left and whatever fault was found, a call that sends packets leads to
-- a running session, or stops it.
abbrev pub SendsOn : Machine State → Machine State → Option (List ℕ) → Option (List ℕ) → Option (List ℕ)
    → Option (List ℕ) → Result (Unit {0}) Stop → Type 0
SendsOn core0 core1 written0 written1 logged0 logged1 result =
    (start : Setup) (past : StreamBytes) (left : Option (List ℕ)) (ahead : Ahead) (fault : Option SessionFault)
    → IsRunning start past (stream_bytes left written0 logged0) ahead core0 fault
    → MatchResult result (λ _. IsRunning start past (stream_bytes left written1 logged1) ahead core1 fault)
    (λ stop. Stops start past (stream_bytes left written1 logged1) stop (tree_left core1))
