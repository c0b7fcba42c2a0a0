-- The records of a transcript file one after the other, INIT and VERSION among them. This profile's own.
use Rattle.std.specs.Prelude.{◌≡◌, ◌⊎◌, ℕ, List, [], length, Option, Some, None}
use Rattle.sftp_packets.specs.declared.packets.Packet.{Packet}
use Rattle.sftp_packets.specs.declared.packets.Packet.TheVariants.{Init, Version, Request, Reply}
use Rattle.sftp_packets.specs.declared.packets.Side.{Side}
use Rattle.sftp_packets.specs.Packets.{spelling, side_of}
use Rattle.sftp_transcript.specs.declared.errors.TranscriptError.{TranscriptError}
use Rattle.sftp_transcript.specs.declared.events.Event.{Event}
use Rattle.sftp_transcript.specs.declared.events.Event.TheVariants.{Asked, Replied}
use Rattle.sftp_transcript.specs.declared.stage.Stage.{Stage}
use Rattle.sftp_transcript.specs.declared.stage.Stage.TheVariants as stages
use Rattle.sftp_streams.specs.Streams.{Ahead}
use Rattle.sftp_transcript.specs.Recorded.{IsSameAhead}
use Rattle.sftp_transcript.specs.Sound.{FaultAhead}
use Rattle.sftp_transcript.specs.Transcript.{Begins, IsInit, IsVersion}
use Rattle.sftp_transcript.specs.Recorded.{Reading}
use Rattle.sftp_transcript.specs.Transcript.{IsEventPacket, InitFault}
use Rattle.sftp_streams.specs.Streams.{HasAhead}
use Rattle.sftp_transcript.specs.Recorded.{IsOpened, Took}
use Rattle.sftp_streams.specs.Streams.{one_more}

-- the packet of the next record, where the opening or a record of this stage is next
abbrev pub MayCome : Stage → Packet → Type 0
MayCome stages.Opening packet = IsInit packet
MayCome stages.Init packet = IsInit packet
MayCome stages.Version packet = IsVersion packet
MayCome stages.Events packet = IsEventPacket packet

-- the stage after the opening, if that is next
abbrev pub stage_opened : Stage → Stage
stage_opened stages.Opening = stages.Init
stage_opened stages.Init = stages.Init
stage_opened stages.Version = stages.Version
stage_opened stages.Events = stages.Events

-- the stage after the next record
abbrev pub stage_after : Stage → Stage
stage_after stages.Opening = stages.Version
stage_after stages.Init = stages.Version
stage_after stages.Version = stages.Events
stage_after stages.Events = stages.Events

-- the number of the next record, given that of the next event's record
abbrev pub record_number : Stage → ℕ → ℕ
record_number stages.Opening number = 1
record_number stages.Init number = 1
record_number stages.Version number = 2
record_number stages.Events number = number

-- the number of the next event's record, after the next record
abbrev pub number_past : Stage → ℕ → ℕ
number_past stages.Opening number = number
number_past stages.Init number = number
number_past stages.Version number = number
number_past stages.Events number = one_more number

-- the bytes after the opening, if that is next
abbrev pub IsAfterOpening : Stage → List ℕ → List ℕ → Type 0
IsAfterOpening stages.Opening ahead records = IsOpened ahead records
IsAfterOpening stages.Init ahead records = records ≡ ahead
IsAfterOpening stages.Version ahead records = records ≡ ahead
IsAfterOpening stages.Events ahead records = records ≡ ahead

-- the record of the packet is next in the bytes ahead, after the opening if that is next, and the rest follows
pub record BeginsNext (stage : Stage) (ahead : List ℕ) (packet : Packet) (rest : List ℕ) : Type 0 where
  pub records : List ℕ
  pub opened : IsAfterOpening stage ahead records
  pub may_come : MayCome stage packet
  pub begins : Begins records packet rest

-- why the bytes ahead begin with no record that may come next, and are not the end of a transcript file
abbrev pub FaultNext : Stage → ℕ → List ℕ → TranscriptError → Type 0
FaultNext stages.Opening number ahead error =
    FaultAhead stages.Opening number ahead error
    ⊎ ((records : List ℕ) × IsOpened ahead records × InitFault records error)
FaultNext stages.Init number ahead error = FaultAhead stages.Init number ahead error
FaultNext stages.Version number ahead error = FaultAhead stages.Version number ahead error
FaultNext stages.Events number ahead error = FaultAhead stages.Events number ahead error

-- a record: the side that sent the packet, the packet, and how many bytes it has with its length field
abbrev pub GivenRecord : Type 0
GivenRecord = Side × Packet × ℕ

-- the side and the number of bytes are those of the packet
abbrev pub IsMeasured : GivenRecord → Type 0
IsMeasured given = (given.0 ≡ side_of given.1) × (given.2 ≡ length (spelling given.1))

-- the packet is given
abbrev pub GivesPacket : Packet → Option GivenRecord → Type 0
GivesPacket packet (Some given) = given.1 ≡ packet
GivesPacket packet None = ⊥

-- the packet in front and the number of its bytes are taken, or none at the end
abbrev pub TookPacket : Stage → List ℕ → Option (Packet × ℕ) → Ahead → Type 0
TookPacket stage before (Some taken) new = Took (λ all rest. BeginsNext stage all taken.0 rest) before new
TookPacket stage before None new = (stage ≡ stages.Events) × (before ≡ []) × HasAhead new []

-- the next record is given, or none at the end
abbrev pub GivesNext : Stage → List ℕ → Option GivenRecord → Reading → Type 0
GivesNext stage before (Some given) new =
    (new.stage ≡ stage_after stage)
    × ((rest : List ℕ) × HasAhead new.ahead rest × BeginsNext stage before given.1 rest)
GivesNext stage before None new =
    (stage ≡ stages.Events) × (new.stage ≡ stages.Events) × (before ≡ []) × HasAhead new.ahead []

-- the stage after a record, or where there is none: only where an event may come next
abbrev pub IsStageThen : Stage → Option GivenRecord → Stage → Type 0
IsStageThen stage (Some given) new = new ≡ stage_after stage
IsStageThen stage None new = (stage ≡ stages.Events) × (new ≡ stages.Events)

-- the number of the next event's record, after a record or where there is none
abbrev pub number_then : Stage → ℕ → Option GivenRecord → ℕ
number_then stage number (Some given) = number_past stage number
number_then stage number None = number

-- no record is taken, and the opening at most
abbrev pub TookNoRecord : Reading → Reading → Type 0
TookNoRecord old new =
    (IsSameAhead old.ahead new.ahead × (new.stage ≡ old.stage))
    ⊎ ((old.stage ≡ stages.Opening) × (new.stage ≡ stages.Init)
    × ((before : List ℕ) → HasAhead old.ahead before → Took IsOpened before new.ahead))

-- the event of a packet, if it is one of an event
abbrev pub event_from : Packet → Option Event
event_from (Init version extensions) = None
event_from (Version version extensions) = None
event_from (Request request) = Some (Asked request)
event_from (Reply reply) = Some (Replied reply)

-- the event of a record, if one is given and it is one of an event
abbrev pub event_in : Option GivenRecord → Option Event
event_in None = None
event_in (Some given) = event_from given.1
