-- What a session of the server reads, writes and logs, and how it ends (draft-ietf-secsh-filexfer-02, sections 3 to 7).
-- Own to this profile: the window, that an unreadable packet ends the session, and how sessions end.
use Rattle.std.specs.Prelude.{◌≡◌, ◌≢◌, ◌⊎◌, ◌==◌, ◌||◌, ℕ, Bool, true, false, List, [], ◌∷◌, ◌++◌, length}
use Rattle.std.specs.Prelude.{map, Option, Some, None, Result, Ok, Err, IsTrue}
use Rattle.std.specs.List.{flat_map, AllByRecursion}
use Rattle.std.specs.Io.KnownBytes.{Appends, Consumes, IsAtEnd}
use Rattle.sftp_packets.specs.declared.errors.Fault.{Fault}
use Rattle.sftp_packets.specs.declared.errors.WireError.TheVariants.{Unreadable}
use Rattle.sftp_packets.specs.declared.packets.Packet.{Packet}
use Rattle.sftp_packets.specs.declared.packets.Packet.TheVariants.{Init, Version, Request as request_packet}
use Rattle.sftp_packets.specs.declared.packets.Request.{Request}
use Rattle.sftp_packets.specs.declared.packets.Side.{Side}
use Rattle.sftp_packets.specs.declared.packets.Side.TheVariants.{Client, Server}
use Rattle.sftp_packets.specs.Requests.{server_extensions}
use Rattle.sftp_packets.specs.Packets.{spelling, side_of, HasSpelling}
use Rattle.sftp_wire.specs.Fronts.{front_of}
use Rattle.sftp_wire.specs.Fronts.{place_after}
use Rattle.sftp_transcript.specs.declared.events.Event.{Event}
use Rattle.sftp_transcript.specs.declared.events.Event.TheVariants.{Asked, Replied}
use Rattle.sftp_streams.specs.Streams.{one_more}
use Rattle.sftp_transcript.specs.Log.{Log}
use Rattle.sftp_transcript.specs.Transcript.{packet_of, record_text, transcript_opening, IsEvent}
use Rattle.sftp_transcript.specs.Transcript.{IsInit}
use Rattle.sftp_transcript.specs.Explained.{Explained, BeginsFrom}
use Rattle.sftp_tree.specs.Tree.{Tree}
use Rattle.sftp_handles.specs.State.{State, started, closed_tree}
use Rattle.sftp_handles.specs.Allowed.{Allowed}
use Rattle.sftp_server.specs.declared.ends.Ended.{Ended}
use Rattle.sftp_server.specs.declared.ends.Ended.TheVariants as ends
use Rattle.sftp_server.specs.declared.ends.SessionFault.{SessionFault}
use Rattle.sftp_server.specs.declared.ends.SessionFault.TheVariants as faults
use Rattle.sftp_server.specs.declared.ends.Stream.{Stream}
use Rattle.sftp_server.specs.declared.ends.Stream.TheVariants as streams

-- ---- the packets of a session

-- the server's VERSION: version 3, and the extensions that it has, each of version 1 (OpenSSH's PROTOCOL, section 4)
abbrev pub our_version : Packet
our_version =
    Version 3 server_extensions

-- What a session starts from: a tree, and the packet that the server announces. Of this callers require that it is a
-- VERSION 3 that can be encoded, with any pairs (draft, section 4).
pub record Setup : Type 0 where
  pub tree : Tree
  pub version : Packet

abbrev pub announcing : Tree → Packet → Setup
announcing tree version = record { tree = tree; version = version }

-- the tree, with the VERSION of this server
abbrev pub usual : Tree → Setup
usual tree = announcing tree our_version

-- the packets of a session with this INIT, once it is open
abbrev pub session_packets : Setup → Packet → List Event → List Packet
session_packets start init events = init ∷ start.version ∷ map packet_of events

-- the bytes, if the packet is of the side that is asked for
abbrev pub spelled_if : Side → Side → List ℕ → List ℕ
spelled_if Client Client bytes = bytes
spelled_if Server Server bytes = bytes
spelled_if Client Server bytes = []
spelled_if Server Client bytes = []

-- the bytes of the packets of one side
unfoldable pub sent_by : Side → List Packet → List ℕ
sent_by side [] = []
sent_by side (packet ∷ packets) = spelled_if side (side_of packet) (spelling packet) ++ sent_by side packets

-- the bytes of the records of packets; the first record has the opening before it
abbrev pub recorded : List Packet → List ℕ
recorded [] = []
recorded (packet ∷ packets) = transcript_opening ++ flat_map record_text (packet ∷ packets)

-- the record of a packet after others, with the opening if there are none
abbrev pub opened_record : List Packet → Packet → List ℕ
opened_record [] packet = transcript_opening ++ record_text packet
opened_record (first ∷ others) packet = record_text packet

-- an INIT of version 3 or more that can be encoded (draft, section 4)
abbrev pub IsGreeting : Packet → Type 0
IsGreeting packet = IsInit packet × HasSpelling packet

-- The session that was opened, with the VERSION that it starts from: what was read is the client's packets and then
-- the rest; what was written is the server's packets; and the log is the record of both in the order of the session.
-- Each event can be encoded.
pub record IsOpened (start : Setup) (input output log : List ℕ) (init : Packet) (events : List Event) (rest : List ℕ)
    : Type 0 where
  pub greeting : IsGreeting init
  pub spelled : AllByRecursion IsEvent events
  pub read : input ≡ sent_by Client (session_packets start init events) ++ rest
  pub written : output ≡ sent_by Server (session_packets start init events)
  pub logged : log ≡ recorded (session_packets start init events)

-- ---- the end of a session that was opened

-- some reply of this id comes after the last request of the events; `since`: one has come since the last request before
-- them
unfoldable pub answered_last : ℕ → Bool → List Event → Bool
answered_last id since [] = since
answered_last id since (Asked request ∷ events) = answered_last id false events
answered_last id since (Replied reply ∷ events) = answered_last id (since || reply.id == id) events

-- the bytes begin with a request of this id
pub record BeginsWithId (bytes : List ℕ) (id : ℕ) : Type 0 where
  pub request : Request
  pub rest : List ℕ
  pub spelled : HasSpelling (request_packet request)
  pub bytes_are : bytes ≡ spelling (request_packet request) ++ rest
  pub same_id : request.id ≡ id

-- the bytes begin with an INIT
pub record BeginsWithInit (bytes : List ℕ) : Type 0 where
  pub version : ℕ
  pub extensions : List (List ℕ × List ℕ)
  pub rest : List ℕ
  pub spelled : HasSpelling (Init version extensions)
  pub bytes_are : bytes ≡ spelling (Init version extensions) ++ rest

-- Why the rest of the input, at this place of the stream, ends the session. `over`: the input has ended.
abbrev pub EndsSession : List Event → List ℕ → ℕ → Type 0 → SessionFault → Type 0
EndsSession events rest place over (faults.Wire (Unreadable fault at)) =
    (front_of Client rest ≡ Err fault) × (at ≡ place)
EndsSession events rest place over (faults.Wire other) = ⊥
EndsSession events rest place over (faults.IdInUse id) =
    BeginsWithId rest id × IsTrue (answered_last id false events)
EndsSession events rest place over faults.BadInit = BeginsWithInit rest
EndsSession events rest place over (faults.Cut at) =
    over × (rest ≢ []) × (front_of Client rest ≡ Ok None) × (at ≡ place)

-- the events are explained, and the tree is that of the last state
pub record IsServed (start : Tree) (events : List Event) (end : Tree) : Type 0 where
  pub last : State
  pub explained : Explained Allowed (started start) events last
  pub end_is : end ≡ closed_tree last

pub record IsFinished (start : Setup) (input : List ℕ) (over : Type 0) (output log : List ℕ) (end : Tree) : Type 0 where
  pub init : Packet
  pub events : List Event
  pub opened : IsOpened start input output log init events []
  pub served : IsServed start.tree events end
  pub ended : over

pub record IsFaulty (start : Setup) (input : List ℕ) (over : Type 0) (output log : List ℕ) (end : Tree)
    (fault : SessionFault) : Type 0 where
  pub init : Packet
  pub events : List Event
  pub rest : List ℕ
  pub opened : IsOpened start input output log init events rest
  pub served : IsServed start.tree events end
  pub broken : EndsSession events rest
      (place_after 0 (length (sent_by Client (session_packets start init events)))) over fault

-- ---- a session that was not opened

-- a packet in front that is not an INIT of version 3 or more
abbrev pub IsNoGreeting : Result (Option (Packet × ℕ)) Fault → Type 0
IsNoGreeting (Ok (Some front)) = IsInit front.0 → ⊥
IsNoGreeting (Ok None) = ⊥
IsNoGreeting (Err fault) = ⊥

-- the first packet is not an INIT of version 3 or more, or it cannot be read, or the input ended before it was complete
abbrev pub IsUnopenedBy : List ℕ → Type 0 → SessionFault → Type 0
IsUnopenedBy input over (faults.Wire (Unreadable fault at)) = (front_of Client input ≡ Err fault) × (at ≡ 0)
IsUnopenedBy input over (faults.Wire other) = ⊥
IsUnopenedBy input over (faults.IdInUse id) = ⊥
IsUnopenedBy input over faults.BadInit =
    (over × (front_of Client input ≡ Ok None)) ⊎ IsNoGreeting (front_of Client input)
IsUnopenedBy input over (faults.Cut at) = ⊥

pub record IsUnopened (start : Tree) (input : List ℕ) (over : Type 0) (output log : List ℕ) (end : Tree)
    (fault : SessionFault) : Type 0 where
  pub by : IsUnopenedBy input over fault
  pub nothing_written : output ≡ []
  pub nothing_logged : log ≡ []
  pub end_is : end ≡ start

-- ---- a session that ended because a stream failed or memory ran out

-- what a session may have logged so far: nothing, its INIT, or its packets up to some event
abbrev pub IsListed : Setup → List Packet → Type 0
IsListed start [] = Unit {0}
IsListed start (init ∷ []) = IsGreeting init
IsListed start (init ∷ version ∷ packets) =
    IsGreeting init × (version ≡ start.version) × (events : List Event) × (packets ≡ map packet_of events)
    × AllByRecursion IsEvent events × BeginsFrom Allowed (started start.tree) events

-- the first is a beginning of the second
abbrev pub IsBeginning : List ℕ → List ℕ → Type 0
IsBeginning cut whole = (rest : List ℕ) × (whole ≡ cut ++ rest)

-- the record of the packets, cut anywhere in that of the last one; the opening is part of the first
abbrev pub IsCutInLast : List Packet → List ℕ → Type 0
IsCutInLast packets log =
    ((packets ≡ []) × (log ≡ []))
    ⊎ ((front : List Packet) × (last : Packet) × (cut : List ℕ) × (packets ≡ front ++ last ∷ [])
    × IsBeginning cut (opened_record front last) × (log ≡ recorded front ++ cut))

-- what was written and logged of the packets
abbrev pub IsWrittenSoFar : Setup → List Packet → List ℕ → List ℕ → Ended → Type 0
IsWrittenSoFar start packets output log (ends.Io streams.Reader) =
    (output ≡ sent_by Server packets) × (log ≡ recorded packets)
IsWrittenSoFar start packets output log (ends.Io streams.Writer) =
    (log ≡ recorded packets)
    × ((output ≡ sent_by Server packets)
    ⊎ ((packet : Packet) × (cut : List ℕ) × (side_of packet ≡ Server) × IsListed start (packets ++ packet ∷ [])
    × IsBeginning cut (spelling packet) × (output ≡ sent_by Server packets ++ cut)))
IsWrittenSoFar start packets output log (ends.Io streams.Log) =
    (output ≡ sent_by Server packets) × IsCutInLast packets log
IsWrittenSoFar start packets output log ends.NoMemory = (output ≡ sent_by Server packets) × IsCutInLast packets log
IsWrittenSoFar start packets output log other = ⊥

pub record IsStopped (start : Setup) (input output log : List ℕ) (ended : Ended) : Type 0 where
  pub packets : List Packet
  pub rest : List ℕ
  pub listed : IsListed start packets
  pub read : input ≡ sent_by Client packets ++ rest
  pub left : IsWrittenSoFar start packets output log ended

-- ---- the whole

-- What was read of the input, what was written and what was logged, and how the session ended. `over`: the input has
-- ended. That a stream failed only where its name is returned is not said here.
abbrev pub ServedFrom : Setup → List ℕ → Type 0 → List ℕ → List ℕ → Ended → Type 0
ServedFrom start input over output log (ends.Finished end) = IsFinished start input over output log end
ServedFrom start input over output log (ends.Fault end fault) =
    IsUnopened start.tree input over output log end fault ⊎ IsFaulty start input over output log end fault
ServedFrom start input over output log (ends.Io stream) = IsStopped start input output log (ends.Io stream)
ServedFrom start input over output log ends.NoMemory = IsStopped start input output log ends.NoMemory

-- the same, with the VERSION of this server
abbrev pub Served : Tree → List ℕ → Type 0 → List ℕ → List ℕ → Ended → Type 0
Served start input over output log ended = ServedFrom (usual start) input over output log ended

-- ---- what is promised of a call of `serve`

-- nothing was logged so far
pub record IsUnused (log : Log) : Type 0 where
  pub sound : log.broken ≡ None
  pub unused : log.records ≡ 0

-- the bytes that a session's input has left, those written, and those logged, each where they are known
pub record StreamBytes : Type 0 where
  pub left : Option (List ℕ)
  pub written : Option (List ℕ)
  pub logged : Option (List ℕ)

abbrev pub stream_bytes : Option (List ℕ) → Option (List ℕ) → Option (List ℕ) → StreamBytes
stream_bytes left written logged = record { left = left; written = written; logged = logged }

-- between two moments these bytes were read, written and logged
pub record Passed (past now : StreamBytes) (input output log : List ℕ) : Type 0 where
  pub read : Consumes past.left now.left input
  pub written : Appends past.written now.written output
  pub logged : Appends past.logged now.logged log

-- what was read, written and logged between two moments is that of a session that started so and ended so
pub record ServesFrom (start : Setup) (past now : StreamBytes) (ended : Ended) : Type 0 where
  pub input : List ℕ
  pub output : List ℕ
  pub log : List ℕ
  pub passed : Passed past now input output log
  pub served : ServedFrom start input (IsAtEnd now.left) output log ended

-- the same, with the VERSION of this server
abbrev pub Serves : Tree → StreamBytes → StreamBytes → Ended → Type 0
Serves start past now ended = ServesFrom (usual start) past now ended

abbrev pub is_same_stream : Stream → Stream → Bool
is_same_stream streams.Reader streams.Reader = true
is_same_stream streams.Reader streams.Writer = false
is_same_stream streams.Reader streams.Log = false
is_same_stream streams.Writer streams.Reader = false
is_same_stream streams.Writer streams.Writer = true
is_same_stream streams.Writer streams.Log = false
is_same_stream streams.Log streams.Reader = false
is_same_stream streams.Log streams.Writer = false
is_same_stream streams.Log streams.Log = true

abbrev pub failures_if : Bool → ℕ → ℕ
failures_if true count = one_more count
failures_if false count = count

-- the failures of a stream after a session: one more if the session ended because of it, and no more if not
abbrev pub CountsEnd : Stream → Ended → ℕ → ℕ → Type 0
CountsEnd stream (ends.Io failed) old new = new ≡ failures_if (is_same_stream stream failed) old
CountsEnd stream other old new = new ≡ old
