-- What is read of known bytes, before and after each step of a reader.
use Rattle.sftp_transcript.proofs.Imports.{◌≡◌, List, ℕ, [], ◌∷◌, ◌++◌, Option, Some, inl, inr, refl, sym, ap, ◌∙◌, subst}
use Rattle.sftp_transcript.proofs.Imports.{append_assoc, append-nil, flat_map, AllByRecursion, flat_map-cons, Packet}
use Rattle.sftp_transcript.proofs.Imports.{Init, Version, Event, Asked, Replied, BeginsRecord, ReadUpTo, with_given}
use Rattle.sftp_transcript.proofs.Imports.{BeginsNext, stage_after, Begins, IsInit, IsVersion, IsOpened, event_record}
use Rattle.sftp_transcript.proofs.Imports.{IsEvent, packet_of, Stage, TranscriptError, FaultNext, FaultAfter}
use Rattle.sftp_transcript.proofs.Imports.{number_after_events}
use Rattle.std.proofs.lemmas.Grind.{flat_map-append}
use Rattle.sftp_transcript.specs.Packets.{event_from}
use Rattle.sftp_transcript.specs.Transcript.{IsEventPacket}
use Rattle.sftp_transcript.specs.declared.stage.Stage.TheVariants as stages
use Rattle.sftp_transcript.proofs.transcripts.{handshake_by}

-- ---- the event of a packet

event_back : (event : Event) → event_from (packet_of event) ≡ Some event
event_back (Asked request) = refl
event_back (Replied reply) = refl

pub event_is : (packet : Packet) (event : Event) → packet ≡ packet_of event → event_from packet ≡ Some event
event_is packet event e = ap event_from e ∙ event_back event

-- ---- each part that is read, in its turn

pub opening_read : (bytes : List ℕ) (events : List Event) (before after : List ℕ) → ReadUpTo stages.Opening bytes events before
    → IsOpened before after → ReadUpTo stages.Init bytes events after
opening_read bytes events before after read is = (read.0, read.1 ∙ is)

init_read : (bytes : List ℕ) (events : List Event) (before after : List ℕ) (packet : Packet)
    → ReadUpTo stages.Init bytes events before → IsInit packet → Begins before packet after
    → ReadUpTo stages.Version bytes (with_given events (event_from packet)) after
init_read bytes events before after (Init version extensions) read is begins = (
  read.0,
  record {
    opened = before;
    opening = read.1;
    init = record { packet = Init version extensions; is_kind = is; begins = begins };
  },
)
init_read bytes events before after other read is begins = absurd is

version_read : (bytes : List ℕ) (events : List Event) (before after : List ℕ) (packet : Packet)
    → ReadUpTo stages.Version bytes events before → IsVersion packet → Begins before packet after
    → BeginsRecord (with_given events (event_from packet)) bytes after
version_read bytes events before after (Version version extensions) read is begins =
    let init = read.1.init in
    let none : BeginsRecord [] bytes after = record {
      opened = read.1.opened;
      records = after;
      opening = read.1.opening;
      handshake =
          handshake_by init.packet (Version version extensions) read.1.opened before after init.is_kind init.begins is begins;
      spelled = tt;
      records_are = refl;
    } in
    subst (λ (l : List Event). BeginsRecord l bytes after) (sym read.0) none
version_read bytes events before after other read is begins = absurd is

pub all_more : (events : List Event) (event : Event) → AllByRecursion IsEvent events → IsEvent event → AllByRecursion IsEvent (events ++ event ∷ [])
all_more [] event all is = (is, tt)
all_more (e ∷ events) event all is = (all.0, all_more events event all.1 is)

one_more_read : (event : Event) (bytes : List ℕ) (events : List Event) (before after : List ℕ) → BeginsRecord events bytes before
    → Begins before (packet_of event) after → BeginsRecord (events ++ event ∷ []) bytes after
one_more_read event bytes events before after read is = record {
  opened = read.opened;
  records = read.records;
  opening = read.opening;
  handshake = read.handshake;
  spelled = all_more events event read.spelled is.spelled;
  records_are =
      let one : flat_map event_record (event ∷ []) ≡ event_record event = flat_map-cons event_record event [] ∙ append-nil (event_record event) in
      let more : flat_map event_record (events ++ event ∷ []) ≡ flat_map event_record events ++ event_record event =
      flat_map-append event_record events (event ∷ []) ∙ ap (λ (l : List ℕ). flat_map event_record events ++ l) one in
      read.records_are ∙ ap (λ (l : List ℕ). flat_map event_record events ++ l) is.bytes_are
      ∙ sym (append_assoc (flat_map event_record events) (event_record event) after) ∙ ap (λ (l : List ℕ). l ++ after) (sym more);
}

event_read : (bytes : List ℕ) (events : List Event) (before after : List ℕ) (packet : Packet)
    → BeginsRecord events bytes before → IsEventPacket packet → Begins before packet after
    → BeginsRecord (with_given events (event_from packet)) bytes after
event_read bytes events before after packet read is begins =
    subst (λ (o : Option Event). BeginsRecord (with_given events o) bytes after) (sym (event_is packet is.0 is.1))
    (one_more_read is.0 bytes events before after read (subst (λ (p : Packet). Begins before p after) is.1 begins))

-- the next record is read
pub record_read : (stage : Stage) (bytes : List ℕ) (events : List Event) (before after : List ℕ) (packet : Packet)
    → ReadUpTo stage bytes events before → BeginsNext stage before packet after
    → ReadUpTo (stage_after stage) bytes (with_given events (event_from packet)) after
record_read stages.Opening bytes events before after packet read n =
    init_read bytes events n.records after packet (opening_read bytes events before n.records read n.opened) n.may_come n.begins
record_read stages.Init bytes events before after packet read n =
    init_read bytes events before after packet read n.may_come (subst (λ (l : List ℕ). Begins l packet after) n.opened n.begins)
record_read stages.Version bytes events before after packet read n =
    version_read bytes events before after packet read n.may_come (subst (λ (l : List ℕ). Begins l packet after) n.opened n.begins)
record_read stages.Events bytes events before after packet read n =
    event_read bytes events before after packet read n.may_come (subst (λ (l : List ℕ). Begins l packet after) n.opened n.begins)

-- a fault that is next is the first one
pub fault_after : (stage : Stage) (bytes : List ℕ) (events : List Event) (ahead : List ℕ) (error : TranscriptError)
    → ReadUpTo stage bytes events ahead → FaultNext stage (number_after_events events) ahead error
    → FaultAfter bytes events error
fault_after stages.Opening bytes events ahead error read (inl fault) =
    record { stage = stages.Opening; ahead = ahead; read = read; fault = fault }
fault_after stages.Opening bytes events ahead error read (inr fault) = record {
  stage = stages.Init;
  ahead = fault.0;
  read = opening_read bytes events ahead fault.0 read fault.1;
  fault = fault.2;
}
fault_after other bytes events ahead error read fault =
    record { stage = other; ahead = ahead; read = read; fault = fault }
