-- How far a reader comes: from one stage, with some bytes ahead, to another with the rest of them. What its calls promise
-- of events that are to come, and of those that were given, follows by laws.
use Rattle.sftp_transcript.proofs.Imports.{◌≡◌, ◌≢◌, List, ℕ, [], ◌∷◌, ◌++◌, Option, Some, None, inl, inr, refl, sym}
use Rattle.sftp_transcript.proofs.Imports.{ap, ◌∙◌, subst, append-nil, length, arith, flat_map, flat_map-cons, Packet}
use Rattle.sftp_transcript.proofs.Imports.{Init, Version, Event, Stage, TranscriptError, NoMemory, BeginsNext}
use Rattle.sftp_transcript.proofs.Imports.{FaultNext, stage_after, Begins, IsInit, IsVersion, IsOpened, event_record}
use Rattle.sftp_transcript.proofs.Imports.{packet_of, AreRecords, ◌≤◌, ◌⊎◌, same_Some, length-append, Io, bytes_ahead}
use Rattle.sftp_transcript.proofs.Imports.{size_of, number_after_events, ReadUpTo, HasGiven, HasGivenOf, FaultOf}
use Rattle.sftp_transcript.proofs.Imports.{GaveFrom, HasStillGiven, with_given, MayCome, GivenRecord, GivesNext}
use Rattle.sftp_transcript.proofs.Imports.{number_then, Reading, Records, rank, RecordsSame, IsKnown, Gave, Gives}
use Rattle.sftp_transcript.proofs.Imports.{HasAhead, IsExcuse}
use Rattle.sftp_transcript.specs.Packets.{event_from, event_in, number_past, TookNoRecord}
use Rattle.sftp_transcript.specs.Recorded.{RecordsFrom, RecordsFromInit, RecordsFromVersion, number_after, reported}
use Rattle.sftp_transcript.specs.Transcript.{IsEventPacket, InitFault}
use Rattle.sftp_transcript.specs.declared.stage.Stage.TheVariants as stages
use Rattle.sftp_transcript.proofs.Begun.{event_is, opening_read, record_read, fault_after}
use Rattle.sftp_transcript.proofs.transcripts.{not_both, none_behind}
use Rattle.sftp_transcript.proofs.transcripts.{begins_one}
use Rattle.sftp_transcript.proofs.transcripts.{handshake_by, record_parts, no_events}
use Rattle.std.specs.Option.{IfSome}
use Rattle.sftp_streams.proofs.Buffers.{known_kept}

-- ==== The events to come, before and after each step of a reader.

-- the events, and before them one, if any
abbrev pub with_first : Option Event → List Event → List Event
with_first None events = events
with_first (Some event) events = event ∷ events

-- the event, if any, is the first of these, and the others are to come
abbrev pub Splits : Stage → Option Event → List Event → List ℕ → Type 0
Splits stage given events after =
    (others : List Event) × (events ≡ with_first given others) × RecordsFrom stage others after

-- ---- what is to come after a part is to come with it

pub opening_sound : (events : List Event) (before after : List ℕ) → IsOpened before after
    → RecordsFromInit events after → RecordsFrom stages.Opening events before
opening_sound events before after is r =
    let init = r.init in
    let version = r.answered.version in
    let recorded = r.answered.recorded in
    record {
      opened = after;
      records = r.answered.records;
      opening = is;
      handshake = handshake_by init.packet version.packet after r.middle r.answered.records init.is_kind init.begins
          version.is_kind version.begins;
      spelled = recorded.spelled;
      records_are = recorded.bytes_are ∙ sym (append-nil (flat_map event_record events));
    }

init_sound : (events : List Event) (before after : List ℕ) (packet : Packet) → IsInit packet
    → Begins before packet after → RecordsFromVersion events after → RecordsFromInit (with_first (event_from packet) events) before
init_sound events before after (Init version extensions) is begins r = record {
  middle = after;
  init = record { packet = Init version extensions; is_kind = is; begins = begins };
  answered = r;
}
init_sound events before after other is begins r = absurd is

version_sound : (events : List Event) (before after : List ℕ) (packet : Packet) → IsVersion packet
    → Begins before packet after → AreRecords events after → RecordsFromVersion (with_first (event_from packet) events) before
version_sound events before after (Version version extensions) is begins r = record {
  records = after;
  version = record { packet = Version version extensions; is_kind = is; begins = begins };
  recorded = r;
}
version_sound events before after other is begins r = absurd is

event_sound : (events : List Event) (before after : List ℕ) (packet : Packet) → IsEventPacket packet
    → Begins before packet after → AreRecords events after → AreRecords (with_first (event_from packet) events) before
event_sound events before after packet is begins r =
    let event = is.0 in
    let first : Begins before (packet_of event) after = subst (λ (p : Packet). Begins before p after) is.1 begins in
    let all : AreRecords (event ∷ events) before = record {
      spelled = (first.spelled, r.spelled);
      bytes_are = first.bytes_are ∙ ap (λ (l : List ℕ). event_record event ++ l) r.bytes_are ∙ sym (flat_map-cons event_record event events);
    } in
    subst (λ (o : Option Event). AreRecords (with_first o events) before) (sym (event_is packet event is.1)) all

pub record_sound : (stage : Stage) (events : List Event) (before after : List ℕ) (packet : Packet)
    → BeginsNext stage before packet after → RecordsFrom (stage_after stage) events after
    → RecordsFrom stage (with_first (event_from packet) events) before
record_sound stages.Opening events before after packet n r =
    opening_sound (with_first (event_from packet) events) before n.records n.opened
    (init_sound events n.records after packet n.may_come n.begins r)
record_sound stages.Init events before after packet n r =
    init_sound events before after packet n.may_come (subst (λ (l : List ℕ). Begins l packet after) n.opened n.begins) r
record_sound stages.Version events before after packet n r =
    version_sound events before after packet n.may_come (subst (λ (l : List ℕ). Begins l packet after) n.opened n.begins) r
record_sound stages.Events events before after packet n r =
    event_sound events before after packet n.may_come (subst (λ (l : List ℕ). Begins l packet after) n.opened n.begins) r

-- ---- what is to come with a part is to come after it

init_split : (events : List Event) (before after : List ℕ) (packet : Packet) → IsInit packet
    → Begins before packet after → RecordsFromInit events before → Splits stages.Version (event_from packet) events after
init_split events before after (Init version extensions) is begins r =
    let same = begins_one before (Init version extensions) r.init.packet after r.middle begins r.init.begins in
    (events, refl, subst (λ (l : List ℕ). RecordsFromVersion events l) (sym same.1) r.answered)
init_split events before after other is begins r = absurd is

version_split : (events : List Event) (before after : List ℕ) (packet : Packet) → IsVersion packet
    → Begins before packet after → RecordsFromVersion events before → Splits stages.Events (event_from packet) events after
version_split events before after (Version version extensions) is begins r =
    let same = begins_one before (Version version extensions) r.version.packet after r.records begins r.version.begins in
    (events, refl, subst (λ (l : List ℕ). AreRecords events l) (sym same.1) r.recorded)
version_split events before after other is begins r = absurd is

event_split : (events : List Event) (before after : List ℕ) (packet : Packet) → Begins before packet after
    → AreRecords events before → Splits stages.Events (event_from packet) events after
event_split [] before after packet begins r = absurd (omega (arith, ap length begins.bytes_are, ap length r.bytes_are))
event_split (event ∷ others) before after packet begins r =
    let behind = flat_map event_record others in
    let first : Begins before (packet_of event) behind =
    record { spelled = r.spelled.0; bytes_are = r.bytes_are ∙ flat_map-cons event_record event others } in
    let same = begins_one before packet (packet_of event) after behind begins first in (
      others,
      ap (λ (o : Option Event). with_first o others) (sym (event_is packet event same.0)),
      record { spelled = r.spelled.1; bytes_are = same.1 },
    )

pub record_split : (stage : Stage) (events : List Event) (before after : List ℕ) (packet : Packet)
    → BeginsNext stage before packet after → RecordsFrom stage events before
    → Splits (stage_after stage) (event_from packet) events after
record_split stages.Opening events before after packet n r =
    init_split events n.records after packet n.may_come n.begins (record_parts events before n.records n.opened r)
record_split stages.Init events before after packet n r =
    init_split events before after packet n.may_come (subst (λ (l : List ℕ). Begins l packet after) n.opened n.begins) r
record_split stages.Version events before after packet n r =
    version_split events before after packet n.may_come (subst (λ (l : List ℕ). Begins l packet after) n.opened n.begins) r
record_split stages.Events events before after packet n r =
    event_split events before after packet (subst (λ (l : List ℕ). Begins l packet after) n.opened n.begins) r

-- ---- no events are to come where a fault is next

no_init : (events : List Event) (before : List ℕ) (error : TranscriptError) → error ≢ NoMemory → InitFault before error
    → RecordsFromInit events before → ⊥
no_init events before error apart fault r =
    not_both IsInit r.init.packet 1 before r.middle error apart r.init.is_kind r.init.begins fault

pub none_coming : (stage : Stage) (number : ℕ) (events : List Event) (before : List ℕ) (error : TranscriptError)
    → error ≢ NoMemory → FaultNext stage number before error → RecordsFrom stage events before → ⊥
none_coming stages.Opening number events before error apart (inl fault) r = fault.1 r.opened r.opening
none_coming stages.Opening number events before error apart (inr fault) r =
    no_init events fault.0 error apart fault.2 (record_parts events before fault.0 fault.1 r)
none_coming stages.Init number events before error apart fault r = no_init events before error apart fault r
none_coming stages.Version number events before error apart fault r =
    not_both IsVersion r.version.packet 2 before r.records error apart r.version.is_kind r.version.begins fault
none_coming stages.Events number events before error apart fault r =
    none_behind events before number error apart r fault.0 fault.1

-- ---- between stages

-- reading from a stage, with these bytes ahead, leads to a stage with the rest of them; with at most one event on the
-- way, the last of what is read
pub data Reaches : Stage → List ℕ → Option Event → Stage → List ℕ → Type 0 where
  stays : (stage : Stage) (bytes : List ℕ) → Reaches stage bytes None stage bytes
  opens : (before after : List ℕ) → IsOpened before after → Reaches stages.Opening before None stages.Init after
  takes : (stage : Stage) (before after : List ℕ) (packet : Packet) → BeginsNext stage before packet after
      → Reaches stage before (event_from packet) (stage_after stage) after
  then : (s t u : Stage) (before middle after : List ℕ) (given : Option Event) → Reaches s before None t middle
      → Reaches t middle given u after → Reaches s before given u after

-- what is to come after it is to come from the start on
reaches_sound : (s t : Stage) (before after : List ℕ) (given : Option Event) → Reaches s before given t after
    → (events : List Event) → RecordsFrom t events after → RecordsFrom s (with_first given events) before
reaches_sound s t before after given (stays stage bytes) events r = r
reaches_sound s t before after given (opens b a is) events r = opening_sound events b a is r
reaches_sound s t before after given (takes stage b a packet n) events r = record_sound stage events b a packet n r
reaches_sound s t before after given (then s' m t' b mid a g p q) events r =
    reaches_sound s' m b mid None p (with_first g events) (reaches_sound m t' mid a g q events r)

-- what is to come from the start on is the event, if any, and then what is to come after it
reaches_split : (s t : Stage) (before after : List ℕ) (given : Option Event) → Reaches s before given t after
    → (events : List Event) → RecordsFrom s events before → Splits t given events after
reaches_split s t before after given (stays stage bytes) events r = (events, refl, r)
reaches_split s t before after given (opens b a is) events r = (events, refl, record_parts events b a is r)
reaches_split s t before after given (takes stage b a packet n) events r = record_split stage events b a packet n r
reaches_split s t before after given (then s' m t' b mid a g p q) events r =
    let first = reaches_split s' m b mid None p events r in
    let second = reaches_split m t' mid a g q first.0 first.2 in
    (second.0, first.1 ∙ second.1, second.2)

-- what was read up to the start is read up to there, with the event, if any
reaches_read : (s t : Stage) (before after : List ℕ) (given : Option Event) → Reaches s before given t after
    → (bytes : List ℕ) (events : List Event) → ReadUpTo s bytes events before → ReadUpTo t bytes (with_given events given) after
reaches_read s t before after given (stays stage rest) bytes events read = read
reaches_read s t before after given (opens b a is) bytes events read = opening_read bytes events b a read is
reaches_read s t before after given (takes stage b a packet n) bytes events read =
    record_read stage bytes events b a packet read n
reaches_read s t before after given (then s' m t' b mid a g p q) bytes events read =
    reaches_read m t' mid a g q bytes events (reaches_read s' m b mid None p bytes events read)

-- ---- of a reader

-- where the bytes ahead are known, the reader comes so far
abbrev pub Comes : Reading → Option Event → Reading → Type 0
Comes old given new =
    (before : List ℕ) → HasAhead old.ahead before
    → (after : List ℕ) × HasAhead new.ahead after × Reaches old.stage before given new.stage after

pub comes-start : (s : Reading) → Comes s None s
comes-start s before known = (before, known, stays s.stage before)

pub comes-then : (old mid new : Reading) (given : Option Event) → Comes old None mid → Comes mid given new → Comes old given new
comes-then old mid new given one other before known =
    let p = one before known in
    let q = other p.0 p.1 in
    (q.0, q.1, then old.stage mid.stage new.stage before p.0 q.0 given p.2 q.2)

-- no record was taken
pub comes-untaken : (old new : Reading) → TookNoRecord old new → Comes old None new
comes-untaken old new (inl kept) before known = (
  before,
  known_kept (bytes_ahead old.ahead) (bytes_ahead new.ahead) before kept.0.bytes known,
  subst (λ (s : Stage). Reaches old.stage before None s before) (sym kept.1) (stays old.stage before),
)
comes-untaken old new (inr opened) before known =
    let took = opened.2 before known in
    let way = opens before took.0 took.2 in
    let from : Reaches old.stage before None stages.Init took.0 =
    subst (λ (s : Stage). Reaches s before None stages.Init took.0) (sym opened.0) way in
    (took.0, took.1, subst (λ (s : Stage). Reaches old.stage before None s took.0) (sym opened.1) from)

-- the next record was given, or there was none
pub comes-given : (old new : Reading) (given : Option GivenRecord)
    → ((before : List ℕ) → HasAhead old.ahead before → GivesNext old.stage before given new) → Comes old (event_in given) new
comes-given old new (Some g) found before known =
    let gives = found before known in
    let rest = gives.1.0 in
    let way = takes old.stage before rest g.1 gives.1.2 in
    (rest, gives.1.1, subst (λ (s : Stage). Reaches old.stage before (event_from g.1) s rest) (sym gives.0) way)
comes-given old new None found before known =
    let gives = found before known in (
      before,
      gives.3 ∙ ap Some (sym gives.2),
      subst (λ (s : Stage). Reaches old.stage before None s before) (gives.0 ∙ sym gives.1) (stays old.stage before),
    )

-- ---- the events to come

pub known-after : (old new : Reading) (given : Option Event) → Comes old given new → IsKnown old → IsKnown new
known-after old new given comes k = let to = comes k.0 k.1 in (to.0, to.1)

coming_sound : (old new : Reading) (given : Option Event) → Comes old given new → IsKnown old → (events : List Event)
    → Records new events → Records old (with_first given events)
coming_sound old new given comes k events r =
    let to = comes k.0 k.1 in
    let at : RecordsFrom new.stage events to.0 =
    subst (λ (l : List ℕ). RecordsFrom new.stage events l) (same_Some r.bytes to.0 (sym r.are_ahead ∙ to.1)) r.recorded in
    record {
      bytes = k.0;
      are_ahead = k.1;
      recorded = reaches_sound old.stage new.stage k.0 to.0 given to.2 events at;
    }

coming_split : (old new : Reading) (given : Option Event) → Comes old given new → (events : List Event)
    → Records old events → (others : List Event) × (events ≡ with_first given others) × Records new others
coming_split old new given comes events r =
    let to = comes r.bytes r.are_ahead in
    let p = reaches_split old.stage new.stage r.bytes to.0 given to.2 events r.recorded in
    (p.0, p.1, record { bytes = to.0; are_ahead = to.1; recorded = p.2 })

pub same-by : (old new : Reading) → Comes old None new → new.number ≡ old.number → new.fault ≡ old.fault
    → size_of new.ahead ≤ size_of old.ahead → RecordsSame old new
same-by old new comes number fault falls = record {
  known = known-after old new None comes;
  sound = coming_sound old new None comes;
  complete = λ events r.
      let p = coming_split old new None comes events r in subst (λ (l : List Event). Records new l) (sym p.1) p.2;
  number = number;
  fault = fault;
  never_rises = falls;
}

pub gave-event : (old new : Reading) (event : Event) → Comes old (Some event) new → IsKnown old → Gave old (Some event) new
gave-event old new event comes k = coming_sound old new (Some event) comes k

pub gives-event : (old new : Reading) (event : Event) → Comes old (Some event) new → (events : List Event)
    → Records old events → Gives (Some event) events new
gives-event old new event comes = coming_split old new (Some event) comes

-- the reader is at the end
abbrev pub HasEnded : Reading → Type 0
HasEnded s = (s.stage ≡ stages.Events) × HasAhead s.ahead []

pub gave-none : (old new : Reading) → Comes old None new → (IsKnown old → HasEnded new) → IsKnown old → Gave old None new
gave-none old new comes ends k =
    let end = ends k in
    let none : AreRecords [] [] = record { spelled = tt; bytes_are = refl } in
    coming_sound old new None comes k [] (record {
      bytes = [];
      are_ahead = end.1;
      recorded = subst (λ (s : Stage). RecordsFrom s [] []) (sym end.0) none;
    })

pub gives-none : (old new : Reading) → Comes old None new → (IsKnown old → HasEnded new) → (events : List Event)
    → Records old events → Gives None events new
gives-none old new comes ends events r =
    let end = ends (r.bytes, r.are_ahead) in
    let p = coming_split old new None comes events r in
    let at : AreRecords p.0 p.2.bytes = subst (λ (s : Stage). RecordsFrom s p.0 p.2.bytes) end.0 p.2.recorded in
    p.1 ∙ no_events p.0 p.2.bytes (ap length (same_Some p.2.bytes [] (sym p.2.are_ahead ∙ end.1))) at

-- ---- past INIT and VERSION, to the next record

module _ (old mid new : Reading) (given : Option GivenRecord) (passed : Comes old None mid)
    (found : (before : List ℕ) → HasAhead mid.ahead before → GivesNext mid.stage before given new) where
  pub comes-past : (event : Option Event) → event_in given ≡ event → Comes old event new
  comes-past event is =
      comes-then old mid new event passed (subst (λ (o : Option Event). Comes mid o new) is (comes-given mid new given found))

  pub ended-past : given ≡ None → IsKnown old → HasEnded new
  ended-past is k =
      let at = known-after old mid None passed k in
      let gives = rw is at (found at.0 at.1) in
      (gives.1, gives.3)

-- ---- the events that were given

pub given-by : (old new : Reading) (given : Option Event) → Comes old given new → new.number ≡ number_after old.number given
    → new.fault ≡ old.fault → (bytes ahead : List ℕ) (events : List Event) → HasGiven bytes events ahead old
    → HasGivenOf bytes (with_given events given) new
given-by old new given comes number fault bytes ahead events has =
    let to = comes ahead has.ahead_are in (
      to.0,
      record {
        ahead_are = to.1;
        read = reaches_read old.stage new.stage ahead to.0 given to.2 bytes events has.read;
        number = number ∙ number_more events given old.number has.number;
        faultless = fault ∙ has.faultless;
      },
    )
  where
    number_more : (events : List Event) (given : Option Event) (number : ℕ) → number ≡ number_after_events events
        → number_after number given ≡ number_after_events (with_given events given)
    number_more events None number is = is
    number_more events (Some event) number is = omega (arith, is, length-append events (event ∷ []))

pub gave-end : (old new : Reading) → Comes old None new → (IsKnown old → HasEnded new) → new.number ≡ old.number
    → new.fault ≡ old.fault → (bytes ahead : List ℕ) (events : List Event) → HasGiven bytes events ahead old
    → GaveFrom bytes events None new
gave-end old new comes ends number fault bytes ahead events has =
    let end = ends (ahead, has.ahead_are) in
    let p = given-by old new None comes number fault bytes ahead events has in
    let none : p.0 ≡ [] = same_Some p.0 [] (sym p.1.ahead_are ∙ end.1) in
    (subst (λ (l : List ℕ). HasGiven bytes events l new) none p.1, end.0)

-- ---- an error

pub memory_or : (error : TranscriptError) → (error ≢ NoMemory → ⊥) → IsExcuse error
memory_or NoMemory not = tt
memory_or (Io place) not = tt
memory_or other not = absurd (not (λ e. absurd cc))

pub excused-events : (old mid : Reading) (error : TranscriptError) → Comes old None mid
    → ((before : List ℕ) → HasAhead mid.ahead before → IsExcuse error ⊎ FaultNext mid.stage mid.number before error)
    → (events : List Event) → Records old events → IsExcuse error
excused-events old mid error comes first events r =
    let p = coming_split old mid None comes events r in
    elim (first p.2.bytes p.2.are_ahead) [
      | inl excuse ↦ excuse
      | inr fault ↦ memory_or error (λ apart. none_coming mid.stage mid.number p.0 p.2.bytes error apart fault p.2.recorded)
    ]

pub fault-of : (old mid : Reading) (error : TranscriptError) → Comes old None mid → mid.number ≡ old.number
    → mid.fault ≡ old.fault
    → ((before : List ℕ) → HasAhead mid.ahead before → IsExcuse error ⊎ FaultNext mid.stage mid.number before error)
    → (bytes ahead : List ℕ) (events : List Event) → HasGiven bytes events ahead old → FaultOf bytes events error
fault-of old mid error comes number fault first bytes ahead events has =
    let p = given-by old mid None comes number fault bytes ahead events has in
    elim (first p.0 p.1.ahead_are) [
      | inl excuse ↦ inl excuse
      | inr why ↦
          inr (fault_after mid.stage bytes events p.0 error p.1.read (subst (λ (n : ℕ). FaultNext mid.stage n p.0 error) p.1.number why))
    ]

-- the error is reported
pub still-given : (bytes : List ℕ) (events : List Event) (error : TranscriptError) (s new : Reading) → new ≡ reported error s
    → HasGivenOf bytes events s → HasStillGiven bytes events error new
still-given bytes events error s new is given =
    subst (λ (r : Reading). HasStillGiven bytes events error r) (sym is) (by_error error given)
  where
    by_error : (error : TranscriptError) → HasGivenOf bytes events s → HasStillGiven bytes events error (reported error s)
    by_error NoMemory given = given
    by_error other given = (
      given.0,
      record { ahead_are = given.1.ahead_are; read = given.1.read; number = given.1.number; faultless = refl },
    )

-- ---- numbers and stages

number_by : (stage : Stage) (number : ℕ) (packet : Packet) → MayCome stage packet
    → number_past stage number ≡ number_after number (event_from packet)
number_by stages.Opening number (Init version extensions) may = refl
number_by stages.Opening number other may = absurd may
number_by stages.Init number (Init version extensions) may = refl
number_by stages.Init number other may = absurd may
number_by stages.Version number (Version version extensions) may = refl
number_by stages.Version number other may = absurd may
number_by stages.Events number packet may =
    ap (λ (o : Option Event). number_after number o) (sym (event_is packet may.0 may.1))

-- the number rises with each event
pub number-is : (stage : Stage) (number : ℕ) (given : Option GivenRecord) → IfSome given (λ g. MayCome stage g.1)
    → number_then stage number given ≡ number_after number (event_in given)
number-is stage number (Some g) may = number_by stage number g.1 may
number-is stage number None may = refl

pub onward : (stage : Stage) → rank stage ≤ rank (stage_after stage)
onward stages.Opening = omega arith
onward stages.Init = omega arith
onward stages.Version = omega arith
onward stages.Events = omega arith
