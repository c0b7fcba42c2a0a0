-- A transcript that is being written: what its sink has, and what each call appends. This profile's own.
use Rattle.std.specs.Prelude.{◌≡◌, ◌⊎◌, ◌==◌, ℕ, List, [], ◌++◌, Option, Some, None, if◌then◌else◌}
use Rattle.std.specs.Io.KnownBytes.{Appends, Keeps}
use Rattle.sftp_packets.specs.declared.errors.Fault.TheVariants.{WrongType}
use Rattle.sftp_packets.specs.declared.packets.Packet.{Packet}
use Rattle.sftp_packets.specs.declared.packets.Side.{Side}
use Rattle.sftp_packets.specs.Packets.{HasSpelling, side_of}
use Rattle.sftp_transcript.specs.declared.errors.TranscriptError.{TranscriptError}
use Rattle.sftp_transcript.specs.declared.errors.TranscriptError.TheVariants.{Wire, Io, NoMemory}
use Rattle.sftp_streams.specs.Streams.{one_more, AppendsPart}
use Rattle.sftp_transcript.specs.Transcript.{transcript_opening, record_text}

-- What a writer has written: the bytes of its sink, where they are known, how many calls of the sink failed, how many
-- records were written, and the number of the record at which the sink failed, if it did.
pub record Log : Type 0 where
  pub bytes : Option (List ℕ)
  pub failures : ℕ
  pub records : ℕ
  pub broken : Option ℕ

-- the number that the next record has
abbrev pub next_number : Log → ℕ
next_number log = one_more log.records

-- the opening comes before the first record
abbrev pub opening_before : ℕ → List ℕ
opening_before records = if records == 0 then transcript_opening else []

-- the bytes of a record, and before those of the first one the opening
abbrev pub opened_text : ℕ → List ℕ → List ℕ
opened_text records text = opening_before records ++ text

-- the record of these bytes is appended
pub record IsAppended (old : Log) (text : List ℕ) (new : Log) : Type 0 where
  pub sound : old.broken ≡ None
  pub bytes : Appends old.bytes new.bytes (opened_text old.records text)
  pub failures : new.failures ≡ old.failures
  pub records : new.records ≡ next_number old
  pub still_sound : new.broken ≡ None

-- nothing is written, and no call fails
pub record IsUnwritten (old new : Log) : Type 0 where
  pub sound : old.broken ≡ None
  pub bytes : Keeps old.bytes new.bytes
  pub failures : new.failures ≡ old.failures
  pub records : new.records ≡ old.records
  pub still_sound : new.broken ≡ None

-- the sink failed at this record in an earlier call, and nothing changes
pub record IsBroken (old : Log) (number : ℕ) (new : Log) : Type 0 where
  pub broken : old.broken ≡ Some number
  pub unchanged : new ≡ old

-- the sink fails at this record, once, with a beginning of the bytes appended
pub record Breaks (old : Log) (text : List ℕ) (number : ℕ) (new : Log) : Type 0 where
  pub sound : old.broken ≡ None
  pub bytes : AppendsPart old.bytes new.bytes text
  pub failures : new.failures ≡ one_more old.failures
  pub records : new.records ≡ old.records
  pub broken : new.broken ≡ Some number

-- the sink fails in this call, at the record of this number, which is the place named
abbrev pub BreaksAt : Log → List ℕ → ℕ → ℕ → Log → Type 0
BreaksAt old text number place new = (place ≡ number) × Breaks old text number new

-- the sink failed at an earlier record, or fails at this one
abbrev pub Fails : Log → List ℕ → ℕ → TranscriptError → Log → Type 0
Fails old text number (Io place) new = IsBroken old place new ⊎ BreaksAt old text number place new
Fails old text number other new = ⊥

-- the sink fails in a call that records these bytes
abbrev pub FailsToRecord : Log → List ℕ → TranscriptError → Log → Type 0
FailsToRecord old text error new = Fails old (opened_text old.records text) (next_number old) error new

-- the sink fails in a flush: at the last record
abbrev pub FailsToFlush : Log → TranscriptError → Log → Type 0
FailsToFlush old error new = Fails old [] old.records error new

-- a packet of this side has a record: it has bytes, and that side sends it
abbrev pub IsRecordable : Side → Packet → Type 0
IsRecordable side packet = HasSpelling packet × (side_of packet ≡ side)

-- why a packet of this side has no record of this number: `Wire` if it has no bytes, or another side sends it
abbrev pub IsBadPacket : Side → Packet → ℕ → TranscriptError → Type 0
IsBadPacket side packet number NoMemory = IsRecordable side packet
IsBadPacket side packet number (Wire fault place) =
    (place ≡ number) × (HasSpelling packet → side_of packet ≡ side → ⊥)
    × ((side_of packet ≡ side → ⊥) → fault ≡ WrongType)
IsBadPacket side packet number other = ⊥

-- why a packet of this side is not recorded: only one that has a record meets a lack of memory or a failing sink, unless
-- the sink failed before
abbrev pub IsUnrecorded : Log → Side → Packet → TranscriptError → Log → Type 0
IsUnrecorded old side packet NoMemory new = IsUnwritten old new × IsRecordable side packet
IsUnrecorded old side packet (Wire fault number) new =
    IsUnwritten old new × IsBadPacket side packet (next_number old) (Wire fault number)
IsUnrecorded old side packet (Io place) new = IsBroken old place new
    ⊎ (IsRecordable side packet
    × BreaksAt old (opened_text old.records (record_text packet)) (next_number old) place new)
IsUnrecorded old side packet other new = ⊥

-- ---- the steps of a call

-- the sink failed in an earlier call
abbrev pub FailedBefore : Log → TranscriptError → Type 0
FailedBefore log (Io place) = log.broken ≡ Some place
FailedBefore log other = ⊥

-- the same with `number` records
abbrev pub counted : Log → ℕ → Log
counted log number = record { bytes = log.bytes; failures = log.failures; records = number; broken = log.broken }

-- the same, broken at a record
abbrev pub broken_at : Log → ℕ → Log
broken_at log number =
    record { bytes = log.bytes; failures = log.failures; records = log.records; broken = Some number }
