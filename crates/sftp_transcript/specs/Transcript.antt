-- Recorded sessions as bytes: the transcript file. This profile's own; the packets are those of
-- draft-ietf-secsh-filexfer-02, section 4 on.
use Rattle.std.specs.Prelude.{◌≡◌, ℕ, ◌≤◌, List, [], ◌∷◌, ◌++◌, codes, ◌==◌, Option, Some, None, IsTrue}
use Rattle.std.specs.Prelude.{if◌then◌else◌, ◌⊎◌, ⊤, Ok, Err}
use Rattle.std.specs.List.{flat_map, AllByRecursion}
use Rattle.sftp_packets.specs.declared.packets.Packet.{Packet}
use Rattle.sftp_packets.specs.declared.packets.Packet.TheVariants.{Init, Version, Request as request_packet}
use Rattle.sftp_packets.specs.declared.packets.Packet.TheVariants.{Reply as reply_packet}
use Rattle.sftp_packets.specs.declared.packets.Side.{Side}
use Rattle.sftp_packets.specs.declared.packets.Side.TheVariants.{Client, Server}
use Rattle.sftp_packets.specs.Packets.{spelling, HasSpelling, side_of}
use Rattle.sftp_transcript.specs.declared.events.Event.{Event}
use Rattle.sftp_transcript.specs.declared.events.Event.TheVariants.{Asked, Replied}
use Rattle.sftp_packets.specs.declared.errors.Fault.TheVariants.{Length, WrongType}
use Rattle.sftp_packets.specs.declared.errors.WireError.{WireError}
use Rattle.sftp_packets.specs.declared.errors.WireError.TheVariants.{TooLong, NotCanonical, Unreadable}
use Rattle.sftp_packets.specs.declared.errors.WireError.TheVariants.{NoMemory as wire_no_memory}
use Rattle.sftp_transcript.specs.declared.errors.TranscriptError.{TranscriptError}
use Rattle.sftp_transcript.specs.declared.errors.TranscriptError.TheVariants.{Wire, NoMemory, Magic, Direction, Start}
use Rattle.sftp_transcript.specs.declared.errors.TranscriptError.TheVariants.{Truncated, Io}
use Rattle.sftp_wire.specs.Fronts.{front_of}
use Rattle.sftp_transcript.specs.declared.stage.Stage.{Stage}
use Rattle.sftp_transcript.specs.declared.stage.Stage.TheVariants as stages

-- `SFTPTR01`
abbrev pub transcript_opening : List ℕ
transcript_opening = codes "SFTPTR01"

-- the packet of an event
abbrev pub packet_of : Event → Packet
packet_of (Asked request) = request_packet request
packet_of (Replied reply) = reply_packet reply

-- `C` before a client's packet, `S` before a server's
abbrev pub direction_of : Side → ℕ
direction_of Client = 67
direction_of Server = 83

-- a record: the direction, and then the packet
abbrev pub record_text : Packet → List ℕ
record_text packet = direction_of (side_of packet) ∷ spelling packet

-- the record of an event
abbrev pub event_record : Event → List ℕ
event_record event = record_text (packet_of event)

-- an event of a transcript file: any request, and any reply
abbrev pub IsEvent : Event → Type 0
IsEvent event = HasSpelling (packet_of event)

-- the events, one record after the other
pub record AreRecords (events : List Event) (bytes : List ℕ) : Type 0 where
  pub spelled : AllByRecursion IsEvent events
  pub bytes_are : bytes ≡ flat_map event_record events

-- an INIT of version 3 or more from the client, and then a VERSION 3 from the server, with any extensions
-- (draft, section 4)
pub record IsHandshake (bytes rest : List ℕ) : Type 0 where
  pub version : ℕ
  pub asked : List (List ℕ × List ℕ)
  pub told : List (List ℕ × List ℕ)
  pub high_enough : 3 ≤ version
  pub init : HasSpelling (Init version asked)
  pub answer : HasSpelling (Version 3 told)
  pub bytes_are : bytes ≡ record_text (Init version asked) ++ (record_text (Version 3 told) ++ rest)

-- the bytes begin with a transcript file of these events, and the rest follows
pub record BeginsRecord (events : List Event) (bytes rest : List ℕ) : Type 0 where
  pub opened : List ℕ
  pub records : List ℕ
  pub opening : bytes ≡ transcript_opening ++ opened
  pub handshake : IsHandshake opened records
  pub spelled : AllByRecursion IsEvent events
  pub records_are : records ≡ flat_map event_record events ++ rest

-- the bytes record the events: nothing follows
abbrev pub IsRecord : List Event → List ℕ → Type 0
IsRecord events bytes = BeginsRecord events bytes []

-- ==== The steps by which a transcript file is read from left to right. This profile's own.

-- the side that a byte before a packet names
abbrev pub side_of_direction : ℕ → Option Side
side_of_direction byte = if byte == 67 then Some Client else (if byte == 83 then Some Server else None)

-- the bytes begin with the record of the packet, and the rest follows
pub record Begins (bytes : List ℕ) (packet : Packet) (rest : List ℕ) : Type 0 where
  pub spelled : HasSpelling packet
  pub bytes_are : bytes ≡ record_text packet ++ rest

-- the bytes begin with the record of a packet of this kind, and the rest follows
pub record BeginsKind (P : Packet → Type 0) (bytes rest : List ℕ) : Type 0 where
  pub packet : Packet
  pub is_kind : P packet
  pub begins : Begins bytes packet rest

-- an INIT of version 3 or more
abbrev pub IsInit : Packet → Type 0
IsInit (Init version extensions) = 3 ≤ version
IsInit other = ⊥

-- the bytes begin with the record of one
abbrev pub BeginsInit : List ℕ → List ℕ → Type 0
BeginsInit bytes rest = BeginsKind IsInit bytes rest

-- a VERSION 3
abbrev pub IsVersion : Packet → Type 0
IsVersion (Version version extensions) = IsTrue (version == 3)
IsVersion other = ⊥

-- the bytes begin with the record of one
abbrev pub BeginsVersion : List ℕ → List ℕ → Type 0
BeginsVersion bytes rest = BeginsKind IsVersion bytes rest

-- the fault of a record whose packet cannot be read
abbrev pub read_fault : ℕ → WireError → TranscriptError
read_fault number wire_no_memory = NoMemory
read_fault number TooLong = Wire Length number
read_fault number NotCanonical = Wire WrongType number
read_fault number (Unreadable fault place) = Wire fault number

-- ==== Why a record is refused. This profile's own.

-- why the bytes after a direction begin with no packet of that side: they hold no whole one, or one with a fault
abbrev pub PacketFault : ℕ → Side → List ℕ → TranscriptError → Type 0
PacketFault number side bytes (Truncated place) = (place ≡ number) × (front_of side bytes ≡ Ok None)
PacketFault number side bytes (Wire fault place) = (place ≡ number) × (front_of side bytes ≡ Err fault)
PacketFault number side bytes NoMemory = ⊤
PacketFault number side bytes other = ⊥

-- the same after any byte, which names a side or none
abbrev pub DirectedFault : ℕ → Option Side → List ℕ → TranscriptError → Type 0
DirectedFault number None bytes error = error ≡ Direction number
DirectedFault number (Some side) bytes error = PacketFault number side bytes error

-- why the bytes begin with no record
abbrev pub RecordFault : ℕ → List ℕ → TranscriptError → Type 0
RecordFault number [] error = error ≡ Start number
RecordFault number (direction ∷ bytes) error = DirectedFault number (side_of_direction direction) bytes error

-- the bytes begin with the record of a packet that is none of these
pub record BeginsOther (P : Packet → Type 0) (bytes : List ℕ) : Type 0 where
  pub packet : Packet
  pub rest : List ℕ
  pub begins : Begins bytes packet rest
  pub is_other : P packet → ⊥

-- the packet of an event
abbrev pub IsEventPacket : Packet → Type 0
IsEventPacket packet = (event : Event) × (packet ≡ packet_of event)

-- why the bytes do not begin with the record of one of these packets, the record of this number
abbrev pub KindFault : (Packet → Type 0) → ℕ → List ℕ → TranscriptError → Type 0
KindFault P number bytes error = RecordFault number bytes error ⊎ ((error ≡ Start number) × BeginsOther P bytes)

-- why the bytes do not begin with an INIT, the first record
abbrev pub InitFault : List ℕ → TranscriptError → Type 0
InitFault bytes error = KindFault IsInit 1 bytes error

-- why the bytes do not begin with a VERSION, the second record
abbrev pub VersionFault : List ℕ → TranscriptError → Type 0
VersionFault bytes error = KindFault IsVersion 2 bytes error

-- why the bytes do not begin with an event, the record of this number
abbrev pub EventFault : ℕ → List ℕ → TranscriptError → Type 0
EventFault number bytes error = KindFault IsEventPacket number bytes error

-- Why what comes next is refused where these bytes are held, or what the source's failure is called there. The number
-- is that of the next event's record.
abbrev pub FaultIn : Stage → ℕ → List ℕ → TranscriptError → Type 0
FaultIn stages.Opening number held error = (error ≡ Io 0) ⊎ (error ≡ Magic 0)
FaultIn stages.Init number held error = (error ≡ Io 1) ⊎ InitFault held error
FaultIn stages.Version number held error = (error ≡ Io 2) ⊎ VersionFault held error
FaultIn stages.Events number held error = (error ≡ Io number) ⊎ EventFault number held error

-- the error is that of the record of this number; `NoMemory` is of none
abbrev pub NamesRecord : ℕ → TranscriptError → Type 0
NamesRecord number (Magic place) = place ≡ number
NamesRecord number (Direction place) = place ≡ number
NamesRecord number (Start place) = place ≡ number
NamesRecord number (Wire fault place) = place ≡ number
NamesRecord number (Truncated place) = place ≡ number
NamesRecord number (Io place) = place ≡ number
NamesRecord number NoMemory = ⊤

-- The number of what comes next: the opening has 0, INIT and VERSION have 1 and 2. The last argument is the number of
-- the next event's record.
abbrev pub number_in_hand : Stage → ℕ → ℕ
number_in_hand stages.Opening number = 0
number_in_hand stages.Init number = 1
number_in_hand stages.Version number = 2
number_in_hand stages.Events number = number
