-- A transcript file that is being read: which events are still to come. This profile's own.
use Rattle.std.specs.Prelude.{◌≡◌, ℕ, ◌+◌, ◌*◌, ◌≤◌, List, ◌∷◌, ◌++◌, length, drop, Option, Some, None, Ok, ⊤, Bool}
use Rattle.std.specs.Prelude.{IsTrue, Result, MatchResult, []}
use Rattle.std.specs.Io.KnownBytes.{Keeps, IsAtEnd, prepend_known}
use Rattle.sftp_packets.specs.declared.packets.Side.{Side}
use Rattle.sftp_wire.specs.Fronts.{front_of}
use Rattle.sftp_packets.specs.Spelling.{packet_limit}
use Rattle.sftp_streams.specs.Streams.{Ahead, bytes_ahead, HasAhead}
use Rattle.sftp_transcript.specs.Transcript.{transcript_opening, AreRecords, IsRecord}
use Rattle.sftp_transcript.specs.declared.errors.TranscriptError.{TranscriptError}
use Rattle.sftp_transcript.specs.declared.errors.TranscriptError.TheVariants.{Io, NoMemory}
use Rattle.sftp_streams.specs.Streams.{one_more}
use Rattle.sftp_transcript.specs.declared.events.Event.{Event}
use Rattle.sftp_transcript.specs.declared.stage.Stage.{Stage}
use Rattle.sftp_transcript.specs.declared.stage.Stage.TheVariants as stages
use Rattle.sftp_transcript.specs.Transcript.{BeginsInit, BeginsVersion}

-- ==== What a reader of a transcript file has ahead of it: bytes that it holds, and bytes that its source has left.

-- how many bytes are held at most: as many as two of the longest packets have
abbrev pub capacity : ℕ
capacity = 2 * packet_limit

-- the most bytes of a record: the direction, and then the packet
abbrev pub record_limit : ℕ
record_limit = packet_limit + 1

-- a number that falls with each byte taken, and does not rise where bytes are read
abbrev pub size_of : Ahead → ℕ
size_of a = a.reads_left * (capacity + 1) + length a.held

-- the same bytes are ahead
pub record IsSameAhead (old new : Ahead) : Type 0 where
  pub bytes : Keeps (bytes_ahead old) (bytes_ahead new)
  pub never_rises : size_of new ≤ size_of old

-- the opening, if the bytes ahead begin with it, is held whole
abbrev pub HoldsOpening : Ahead → Type 0
HoldsOpening a =
    (bytes rest : List ℕ) → bytes_ahead a ≡ Some bytes → bytes ≡ transcript_opening ++ rest
    → length transcript_opening ≤ length a.held

-- the bytes are a direction, and then a packet of that side that is not whole
abbrev pub CutsPacket : List ℕ → Side → Type 0
CutsPacket bytes side =
    (direction : ℕ) × (spelled : List ℕ) × (bytes ≡ direction ∷ spelled) × (front_of side spelled ≡ Ok None)

-- a record is held in part only where nothing is left
abbrev pub CutsAtEnd : Ahead → Type 0
CutsAtEnd a = (side : Side) → CutsPacket a.held side → IsAtEnd a.left

-- ==== How a reader of a transcript file takes what is in front of the bytes ahead. This profile's own.

-- memory ran out, or the source failed
abbrev pub IsExcuse : TranscriptError → Type 0
IsExcuse NoMemory = ⊤
IsExcuse (Io number) = ⊤
IsExcuse other = ⊥

-- the source failed once if the error is `Io`, and then it may fail; else it did not fail
abbrev pub CountsIo : Bool → TranscriptError → ℕ → ℕ → Type 0
CountsIo may_fail (Io number) old new = IsTrue may_fail × (new ≡ one_more old)
CountsIo may_fail other old new = new ≡ old

-- the same of a result
abbrev pub CountsError : {A : Type 0} → Bool → Result A TranscriptError → ℕ → ℕ → Type 0
CountsError may_fail result old new = MatchResult result (λ _. new ≡ old) (λ error. CountsIo may_fail error old new)

-- the bytes before are the opening and the bytes after
abbrev pub IsOpened : List ℕ → List ℕ → Type 0
IsOpened before after = before ≡ transcript_opening ++ after

-- some bytes are ahead: those that follow what the bytes before begin with
abbrev pub Took : (List ℕ → List ℕ → Type 0) → List ℕ → Ahead → Type 0
Took P before new = (after : List ℕ) × HasAhead new after × P before after

-- What a reader has of a transcript file: the bytes ahead, what comes next in them, the number of the next event's
-- record, and the fault that was reported, if any.
pub record Reading : Type 0 where
  pub ahead : Ahead
  pub stage : Stage
  pub number : ℕ
  pub fault : Option TranscriptError

-- the bytes are a VERSION, and then the events
pub record RecordsFromVersion (events : List Event) (bytes : List ℕ) : Type 0 where
  pub records : List ℕ
  pub version : BeginsVersion bytes records
  pub recorded : AreRecords events records

-- the bytes are an INIT, a VERSION, and then the events
pub record RecordsFromInit (events : List Event) (bytes : List ℕ) : Type 0 where
  pub middle : List ℕ
  pub init : BeginsInit bytes middle
  pub answered : RecordsFromVersion events middle

-- the bytes record the events, from what comes next on
abbrev pub RecordsFrom : Stage → List Event → List ℕ → Type 0
RecordsFrom stages.Opening events bytes = IsRecord events bytes
RecordsFrom stages.Init events bytes = RecordsFromInit events bytes
RecordsFrom stages.Version events bytes = RecordsFromVersion events bytes
RecordsFrom stages.Events events bytes = AreRecords events bytes

-- the bytes ahead are known
abbrev pub IsKnown : Reading → Type 0
IsKnown s = (bytes : List ℕ) × HasAhead s.ahead bytes

-- the bytes ahead are known, and record these events
pub record Records (s : Reading) (events : List Event) : Type 0 where
  pub bytes : List ℕ
  pub are_ahead : HasAhead s.ahead bytes
  pub recorded : RecordsFrom s.stage events bytes

-- the same events are to come
pub record RecordsSame (old new : Reading) : Type 0 where
  pub known : IsKnown old → IsKnown new
  pub sound : IsKnown old → (events : List Event) → Records new events → Records old events
  pub complete : (events : List Event) → Records old events → Records new events
  pub number : new.number ≡ old.number
  pub fault : new.fault ≡ old.fault
  pub never_rises : size_of new.ahead ≤ size_of old.ahead

-- the event comes first, or none is to come
abbrev pub Gave : Reading → Option Event → Reading → Type 0
Gave old (Some event) new = (events : List Event) → Records new events → Records old (event ∷ events)
Gave old None new = Records old []

-- the first of these events, and then the others are to come; or there is none
abbrev pub Gives : Option Event → List Event → Reading → Type 0
Gives (Some event) events new = (others : List Event) × (events ≡ event ∷ others) × Records new others
Gives None events new = events ≡ []

-- the number of the record after an event, or where there is none
abbrev pub number_after : ℕ → Option Event → ℕ
number_after number (Some event) = one_more number
number_after number None = number

-- how far the reading has come
abbrev pub rank : Stage → ℕ
rank stages.Opening = 0
rank stages.Init = 1
rank stages.Version = 2
rank stages.Events = 3

-- an error is reported for good, unless memory ran out
abbrev pub reported : TranscriptError → Reading → Reading
reported NoMemory s = s
reported error s = record { ahead = s.ahead; stage = s.stage; number = s.number; fault = Some error }
