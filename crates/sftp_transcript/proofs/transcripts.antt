use Rattle.sftp_transcript.proofs.Imports.{eqb-true, ◌≡◌, ℕ, List, [], ◌∷◌, ◌++◌, length, refl, sym, ◌∙◌, subst}
use Rattle.sftp_transcript.proofs.Imports.{arith, flat_map, append-nil, event_record, append_cancel_left, Event}
use Rattle.sftp_transcript.proofs.Imports.{Packet, Init, Version, transcript_opening, AreRecords, IsHandshake}
use Rattle.sftp_transcript.proofs.Imports.{IsRecord, Begins, IsInit, IsVersion, record_text, ap, flat_map-cons, Side}
use Rattle.sftp_transcript.proofs.Imports.{Client, Server, Asked, Replied, direction_of, packet_of, ◌≢◌, inl, inr}
use Rattle.sftp_transcript.proofs.Imports.{Option, Some, None, Result, Ok, Err, append_assoc, AllByRecursion, Fault}
use Rattle.sftp_transcript.proofs.Imports.{TranscriptError, Wire, Truncated, NoMemory, Stage, BeginsRecord, ReadUpTo}
use Rattle.sftp_transcript.proofs.Imports.{FaultAhead, FaultAfter, number_after_events, side_of_direction, IsEvent}
use Rattle.sftp_transcript.proofs.Imports.{front_of, ◌<◌, ◌≤◌, ◌⊎◌, BeginsWithInit, rank}
use Rattle.sftp_transcript.specs.Recorded.{RecordsFromInit}
use Rattle.sftp_transcript.specs.Transcript.{BeginsInit, BeginsVersion}
use Rattle.sftp_wire.proofs.StreamLaws.{spellings-apart, front_again}
use Rattle.sftp_transcript.proofs.Fronts.{same_cons}
use Rattle.sftp_packets.specs.Packets.{spelling, HasSpelling, side_of}
use Rattle.sftp_transcript.specs.declared.stage.Stage.TheVariants as stages
use Rattle.sftp_transcript.specs.Transcript.{KindFault, PacketFault, DirectedFault, RecordFault, IsEventPacket}
use Rattle.sftp_transcript.specs.Transcript.{EventFault}

-- ==== What a transcript file begins with.

pub no_events : (events : List Event) (bytes : List ℕ) → length bytes ≡ 0 → AreRecords events bytes → events ≡ []
no_events [] bytes none are = refl
no_events (e ∷ es) bytes none are = cc

-- the records of a whole file
pub records_of : (events : List Event) (bytes : List ℕ) → (is : IsRecord events bytes) → AreRecords events is.records
records_of events bytes is =
    record { spelled = is.spelled; bytes_are = is.records_are ∙ append-nil (flat_map event_record events) }

-- ---- the records before the events

-- a handshake is an INIT, and then a VERSION
pub record HandshakeParts (opened records : List ℕ) : Type 0 where
  pub middle : List ℕ
  pub init : BeginsInit opened middle
  pub version : BeginsVersion middle records

pub handshake_parts : (opened records : List ℕ) → IsHandshake opened records → HandshakeParts opened records
handshake_parts opened records shake = record {
  middle = record_text (Version 3 shake.told) ++ records;
  init = record {
    packet = Init shake.version shake.asked;
    is_kind = shake.high_enough;
    begins = record { spelled = shake.init; bytes_are = shake.bytes_are };
  };
  version = record {
    packet = Version 3 shake.told;
    is_kind = refl;
    begins = record { spelled = shake.answer; bytes_are = refl };
  };
}

pub record_parts : (events : List Event) (bytes opened : List ℕ) → bytes ≡ transcript_opening ++ opened
    → IsRecord events bytes → RecordsFromInit events opened
record_parts events bytes opened e is =
    let same : is.opened ≡ opened = append_cancel_left transcript_opening is.opened opened (sym is.opening ∙ e) in
    let p = handshake_parts opened is.records (subst (λ (l : List ℕ). IsHandshake l is.records) same is.handshake) in
    record {
      middle = p.middle;
      init = p.init;
      answered = record { records = is.records; version = p.version; recorded = records_of events bytes is };
    }

-- an INIT and a VERSION in front are a handshake
pub handshake_by : (p q : Packet) (opened middle records : List ℕ) → IsInit p → Begins opened p middle → IsVersion q
    → Begins middle q records → IsHandshake opened records
handshake_by (Init version asked) (Version three told) opened middle records high first is second =
    grind (arith, eqb-true)
handshake_by (Init version asked) other opened middle records high first is second = absurd is
handshake_by other q opened middle records high first is second = absurd high

-- ==== Bytes record one list of events.

side_from_direction : (s t : Side) → direction_of s ≡ direction_of t → s ≡ t
side_from_direction Client Client e = refl
side_from_direction Client Server e = absurd (omega arith)
side_from_direction Server Client e = absurd (omega arith)
side_from_direction Server Server e = refl

pub event_from_packet : (event other : Event) → packet_of event ≡ packet_of other → event ≡ other
event_from_packet (Asked x) (Asked y) e = cc
event_from_packet (Asked x) (Replied y) e = cc
event_from_packet (Replied x) (Asked y) e = cc
event_from_packet (Replied x) (Replied y) e = cc

-- one record begins the bytes at most
pub begins_one : (bytes : List ℕ) (p q : Packet) (x y : List ℕ) → Begins bytes p x → Begins bytes q y
    → (p ≡ q) × (x ≡ y)
begins_one bytes p q x y one other = grind (arith, same_cons, side_from_direction, spellings-apart)

-- one list of events stands in the bytes at most
pub AreRecords-one : (events others : List Event) (bytes : List ℕ) → AreRecords events bytes
    → AreRecords others bytes → events ≡ others
AreRecords-one [] others bytes are same = sym (no_events others bytes (ap length are.bytes_are) same)
AreRecords-one (e ∷ es) [] bytes are same = no_events (e ∷ es) bytes (ap length same.bytes_are) are
AreRecords-one (e ∷ es) (o ∷ os) bytes are same =
    let first : Begins bytes (packet_of e) (flat_map event_record es) =
    record { spelled = are.spelled.0; bytes_are = are.bytes_are ∙ flat_map-cons event_record e es } in
    let second : Begins bytes (packet_of o) (flat_map event_record os) =
    record { spelled = same.spelled.0; bytes_are = same.bytes_are ∙ flat_map-cons event_record o os } in
    let one = begins_one bytes (packet_of e) (packet_of o) (flat_map event_record es)
    (flat_map event_record os) first second in
    let rest = AreRecords-one es os (flat_map event_record es)
    (record { spelled = are.spelled.1; bytes_are = refl }) (record { spelled = same.spelled.1; bytes_are = one.1 }) in
    let head = event_from_packet e o one.0 in
    cc

pub records_are_one_lem : (events others : List Event) (bytes : List ℕ) → IsRecord events bytes
    → IsRecord others bytes → events ≡ others
records_are_one_lem events others bytes is same =
    let p = record_parts events bytes is.opened is.opening is in
    let q = record_parts others bytes is.opened is.opening same in
    let middle = begins_one is.opened p.init.packet q.init.packet p.middle q.middle p.init.begins q.init.begins in
    let one = p.answered in
    let other = q.answered in
    let records = begins_one p.middle one.version.packet other.version.packet one.records other.records one.version.begins
    (rw middle.1 other.version.begins) in
    AreRecords-one events others one.records one.recorded (rw records.1 other.recorded)

-- ==== What begins the bytes begins each list of events that they record, and bytes with a fault record none.

-- ---- what begins the records begins each list of events

-- the list goes on with events that the rest records
pub record GoesOn (events others : List Event) (rest : List ℕ) : Type 0 where
  pub more : List Event
  pub others_are : others ≡ events ++ more
  pub recorded : AreRecords more rest

pub first_record : (event : Event) (events : List Event) (rest bytes : List ℕ) → IsEvent event
    → bytes ≡ flat_map event_record (event ∷ events) ++ rest → Begins bytes (packet_of event) (flat_map event_record events ++ rest)
first_record event events rest bytes is e = record {
  spelled = is;
  bytes_are = e ∙ ap (λ (l : List ℕ). l ++ rest) (flat_map-cons event_record event events) ∙ append_assoc (event_record event) (flat_map event_record events) rest;
}

goes_on : (events others : List Event) (bytes rest : List ℕ) → AllByRecursion IsEvent events → bytes ≡ flat_map event_record events ++ rest
    → AreRecords others bytes → GoesOn events others rest
goes_on [] others bytes rest all e are = record { more = others; others_are = refl; recorded = subst (AreRecords others) e are }
goes_on (event ∷ events) [] bytes rest all e are =
    let begins = first_record event events rest bytes all.0 e in
    absurd (omega (arith, ap length begins.bytes_are, ap length are.bytes_are))
goes_on (event ∷ events) (other ∷ others) bytes rest all e are =
    let begins = first_record event events rest bytes all.0 e in
    let second : Begins bytes (packet_of other) (flat_map event_record others) =
    record { spelled = are.spelled.0; bytes_are = are.bytes_are ∙ flat_map-cons event_record other others } in
    let one = begins_one bytes (packet_of event) (packet_of other) (flat_map event_record events ++ rest) (flat_map event_record others) begins second in
    let behind = goes_on events others (flat_map event_record others) rest all.1 (sym one.1)
    (record { spelled = are.spelled.1; bytes_are = refl }) in
    let head = event_from_packet event other one.0 in
    record { more = behind.more; others_are = cc; recorded = behind.recorded }

-- the records after a handshake are fixed
pub same_records : (opened records others : List ℕ) → IsHandshake opened records → IsHandshake opened others → records ≡ others
same_records opened records others one other =
    let p = handshake_parts opened records one in
    let q = handshake_parts opened others other in
    let middle = begins_one opened p.init.packet q.init.packet p.middle q.middle p.init.begins q.init.begins in
    (begins_one p.middle p.version.packet q.version.packet records others p.version.begins
    (subst (λ (l : List ℕ). Begins l q.version.packet others) (sym middle.1) q.version.begins)).1

-- what begins the bytes begins each list of events that they record
pub begins_each : (events others : List Event) (bytes rest : List ℕ) → BeginsRecord events bytes rest → IsRecord others bytes
    → GoesOn events others rest
begins_each events others bytes rest begins is =
    let opened : is.opened ≡ begins.opened = append_cancel_left transcript_opening is.opened begins.opened (sym is.opening ∙ begins.opening) in
    let records : is.records ≡ begins.records = same_records begins.opened is.records begins.records (subst (λ (l : List ℕ). IsHandshake l is.records) opened is.handshake) begins.handshake in
    goes_on events others begins.records rest begins.spelled begins.records_are
    (subst (AreRecords others) records (records_of others bytes is))

-- ---- bytes with a fault record no events

side_back : (side : Side) → side_of_direction (direction_of side) ≡ Some side
side_back Client = refl
side_back Server = refl

found_none : (x : Packet × ℕ) (read : Result (Option (Packet × ℕ)) Fault) → read ≡ Ok (Some x) → read ≡ Ok None → ⊥
found_none x read p q = absurd cc

found_fault : (x : Packet × ℕ) (fault : Fault) (read : Result (Option (Packet × ℕ)) Fault) → read ≡ Ok (Some x) → read ≡ Err fault → ⊥
found_fault x fault read p q = absurd cc

whole_packet : (packet : Packet) (number : ℕ) (rest : List ℕ) (error : TranscriptError) → error ≢ NoMemory → HasSpelling packet
    → PacketFault number (side_of packet) (spelling packet ++ rest) error → ⊥
whole_packet packet number rest (Truncated place) apart is fault =
    found_none (packet, length (spelling packet)) (front_of (side_of packet) (spelling packet ++ rest)) (front_again packet rest is) fault.1
whole_packet packet number rest (Wire f place) apart is fault =
    found_fault (packet, length (spelling packet)) f (front_of (side_of packet) (spelling packet ++ rest)) (front_again packet rest is) fault.1
whole_packet packet number rest NoMemory apart is fault = absurd (apart refl)
whole_packet packet number rest other apart is fault = absurd fault

pub whole_record : (packet : Packet) (number : ℕ) (bytes rest : List ℕ) (error : TranscriptError) → error ≢ NoMemory → Begins bytes packet rest
    → RecordFault number bytes error → ⊥
whole_record packet number bytes rest error apart begins fault =
    let behind = spelling packet ++ rest in
    let at : RecordFault number (direction_of (side_of packet) ∷ behind) error =
    subst (λ (l : List ℕ). RecordFault number l error) begins.bytes_are fault in
    let directed : DirectedFault number (Some (side_of packet)) behind error =
    subst (λ (s : Option Side). DirectedFault number s behind error) (side_back (side_of packet)) at in
    whole_packet packet number rest error apart begins.spelled directed

pub not_both : (P : Packet → Type 0) (packet : Packet) (number : ℕ) (bytes rest : List ℕ) (error : TranscriptError) → error ≢ NoMemory
    → P packet → Begins bytes packet rest → KindFault P number bytes error → ⊥
not_both P packet number bytes rest error apart is begins (inl fault) = whole_record packet number bytes rest error apart begins fault
not_both P packet number bytes rest error apart is begins (inr other) =
    let one = begins_one bytes packet other.1.packet rest other.1.rest begins other.1.begins in
    other.1.is_other (subst P one.0 is)

pub none_behind : (more : List Event) (ahead : List ℕ) (number : ℕ) (error : TranscriptError) → error ≢ NoMemory
    → AreRecords more ahead → ahead ≢ [] → EventFault number ahead error → ⊥
none_behind [] ahead number error apart are some fault = some are.bytes_are
none_behind (event ∷ more) ahead number error apart are some fault =
    let begins : Begins ahead (packet_of event) (flat_map event_record more) =
    record { spelled = are.spelled.0; bytes_are = are.bytes_are ∙ flat_map-cons event_record event more } in
    not_both IsEventPacket (packet_of event) number ahead (flat_map event_record more) error apart (event, refl) begins fault

not_recorded : (stage : Stage) (events others : List Event) (bytes ahead : List ℕ) (number : ℕ) (error : TranscriptError) → error ≢ NoMemory
    → ReadUpTo stage bytes events ahead → FaultAhead stage number ahead error → IsRecord others bytes → ⊥
not_recorded stages.Opening events others bytes ahead number error apart read fault is =
    fault.1 is.opened (sym read.1 ∙ is.opening)
not_recorded stages.Init events others bytes ahead number error apart read fault is =
    let p = record_parts others bytes ahead read.1 is in
    not_both IsInit p.init.packet 1 ahead p.middle error apart p.init.is_kind p.init.begins fault
not_recorded stages.Version events others bytes ahead number error apart read fault is =
    let opened = read.1.opened in
    let p = record_parts others bytes opened read.1.opening is in
    let same = begins_one opened p.init.packet read.1.init.packet p.middle ahead p.init.begins read.1.init.begins in
    let answer = p.answered in
    not_both IsVersion answer.version.packet 2 ahead answer.records error apart answer.version.is_kind
    (subst (λ (l : List ℕ). Begins l answer.version.packet answer.records) same.1 answer.version.begins) fault
not_recorded stages.Events events others bytes ahead number error apart read fault is =
    let on = begins_each events others bytes ahead read is in
    none_behind on.more ahead number error apart on.recorded fault.0 fault.1

-- bytes whose first fault comes after some events record none
pub faulty_records_none : (bytes : List ℕ) (events others : List Event) (error : TranscriptError) → error ≢ NoMemory
    → FaultAfter bytes events error → IsRecord others bytes → ⊥
faulty_records_none bytes events others error apart fault is =
    not_recorded fault.stage events others bytes fault.ahead (number_after_events events) error apart fault.read fault.fault is

-- ==== Bytes have one first fault, and what begins them agrees with it.

-- ---- a record has one fault

abbrev Front : Type 0
Front = Result (Option (Packet × ℕ)) Fault

same_fault : (read : Front) (f g : Fault) → read ≡ Err f → read ≡ Err g → f ≡ g
same_fault read f g p q = cc

part_or_fault : (read : Front) (f : Fault) → read ≡ Ok None → read ≡ Err f → ⊥
part_or_fault read f p q = absurd cc

abbrev WhyUnread : ℕ → Front → TranscriptError → Type 0
WhyUnread number read error =
    ((error ≡ Truncated number) × (read ≡ Ok None)) ⊎ ((f : Fault) × (error ≡ Wire f number) × (read ≡ Err f))

why_unread : (number : ℕ) (side : Side) (bytes : List ℕ) (error : TranscriptError) → error ≢ NoMemory
    → PacketFault number side bytes error → WhyUnread number (front_of side bytes) error
why_unread number side bytes (Truncated place) apart fault = inl (ap (λ (n : ℕ). Truncated n) fault.0, fault.1)
why_unread number side bytes (Wire f place) apart fault = inr (f, ap (λ (n : ℕ). Wire f n) fault.0, fault.1)
why_unread number side bytes NoMemory apart fault = absurd (apart refl)
why_unread number side bytes other apart fault = absurd fault

one_unread : (number : ℕ) (read : Front) (a b : TranscriptError) → WhyUnread number read a → WhyUnread number read b → a ≡ b
one_unread number read a b (inl p) (inl q) = p.0 ∙ sym q.0
one_unread number read a b (inl p) (inr q) = absurd (part_or_fault read q.0 p.1 q.2)
one_unread number read a b (inr p) (inl q) = absurd (part_or_fault read p.0 q.1 p.2)
one_unread number read a b (inr p) (inr q) =
    p.1 ∙ ap (λ (f : Fault). Wire f number) (same_fault read p.0 q.0 p.2 q.2) ∙ sym q.1

directed_one : (number : ℕ) (side : Option Side) (bytes : List ℕ) (a b : TranscriptError) → a ≢ NoMemory → b ≢ NoMemory
    → DirectedFault number side bytes a → DirectedFault number side bytes b → a ≡ b
directed_one number None bytes a b not_a not_b for_a for_b = for_a ∙ sym for_b
directed_one number (Some side) bytes a b not_a not_b for_a for_b =
    one_unread number (front_of side bytes) a b (why_unread number side bytes a not_a for_a)
    (why_unread number side bytes b not_b for_b)

record_one : (number : ℕ) (bytes : List ℕ) (a b : TranscriptError) → a ≢ NoMemory → b ≢ NoMemory
    → RecordFault number bytes a → RecordFault number bytes b → a ≡ b
record_one number [] a b not_a not_b for_a for_b = for_a ∙ sym for_b
record_one number (direction ∷ bytes) a b not_a not_b for_a for_b =
    directed_one number (side_of_direction direction) bytes a b not_a not_b for_a for_b

kind_one : (P : Packet → Type 0) (number : ℕ) (bytes : List ℕ) (a b : TranscriptError) → a ≢ NoMemory → b ≢ NoMemory
    → KindFault P number bytes a → KindFault P number bytes b → a ≡ b
kind_one P number bytes a b not_a not_b (inl p) (inl q) = record_one number bytes a b not_a not_b p q
kind_one P number bytes a b not_a not_b (inl p) (inr q) =
    absurd (whole_record q.1.packet number bytes q.1.rest a not_a q.1.begins p)
kind_one P number bytes a b not_a not_b (inr p) (inl q) =
    absurd (whole_record p.1.packet number bytes p.1.rest b not_b p.1.begins q)
kind_one P number bytes a b not_a not_b (inr p) (inr q) = p.0 ∙ sym q.0

-- ---- two beginnings of the same bytes

-- the second list begins with the first, and what is ahead of the first begins with the others
pub record Extends (events : List Event) (ahead : List ℕ) (others : List Event) (rest : List ℕ) : Type 0 where
  pub more : List Event
  pub spelled : AllByRecursion IsEvent more
  pub others_are : others ≡ events ++ more
  pub ahead_is : ahead ≡ flat_map event_record more ++ rest

both_heads : (x y : Event) (xs ys zs : List Event) → x ≡ y → ys ≡ xs ++ zs → y ∷ ys ≡ (x ∷ xs) ++ zs
both_heads x y xs ys zs head tail = ap (λ (l : List Event). y ∷ l) tail ∙ ap (λ (e : Event). e ∷ (xs ++ zs)) (sym head)

compared : (events others : List Event) (records ahead rest : List ℕ) → AllByRecursion IsEvent events
    → AllByRecursion IsEvent others → records ≡ flat_map event_record events ++ ahead
    → records ≡ flat_map event_record others ++ rest → Extends events ahead others rest ⊎ Extends others rest events ahead
compared [] others records ahead rest all each one other =
    inl (record { more = others; spelled = each; others_are = refl; ahead_is = sym one ∙ other })
compared (x ∷ xs) [] records ahead rest all each one other =
    inr (record { more = x ∷ xs; spelled = all; others_are = refl; ahead_is = sym other ∙ one })
compared (x ∷ xs) (y ∷ ys) records ahead rest all each one other =
    let same = begins_one records (packet_of x) (packet_of y) (flat_map event_record xs ++ ahead) (flat_map event_record ys ++ rest)
    (first_record x xs ahead records all.0 one) (first_record y ys rest records each.0 other) in
    let head : x ≡ y = event_from_packet x y same.0 in
    elim (compared xs ys (flat_map event_record xs ++ ahead) ahead rest all.1 each.1 refl same.1) [
      | inl on ↦ inl (record {
        more = on.more;
        spelled = on.spelled;
        others_are = both_heads x y xs ys on.more head on.others_are;
        ahead_is = on.ahead_is;
      })
      | inr on ↦ inr (record {
        more = on.more;
        spelled = on.spelled;
        others_are = both_heads y x ys xs on.more (sym head) on.others_are;
        ahead_is = on.ahead_is;
      })
    ]

same_opened : (bytes opened others : List ℕ) → bytes ≡ transcript_opening ++ opened → bytes ≡ transcript_opening ++ others
    → opened ≡ others
same_opened bytes opened others one other = append_cancel_left transcript_opening opened others (sym one ∙ other)

pub beginnings_compared : (bytes : List ℕ) (events others : List Event) (ahead rest : List ℕ) → BeginsRecord events bytes ahead
    → BeginsRecord others bytes rest → Extends events ahead others rest ⊎ Extends others rest events ahead
beginnings_compared bytes events others ahead rest one other =
    let opened : other.opened ≡ one.opened = same_opened bytes other.opened one.opened other.opening one.opening in
    let records : other.records ≡ one.records =
    same_records one.opened other.records one.records (rw opened at other.handshake) one.handshake in
    compared events others one.records ahead rest one.spelled other.spelled one.records_are (sym records ∙ other.records_are)

-- ---- a fault in front ends what begins the bytes

ended_by : (events others more : List Event) (ahead rest : List ℕ) (number : ℕ) (error : TranscriptError) → error ≢ NoMemory
    → EventFault number ahead error → AllByRecursion IsEvent more → others ≡ events ++ more
    → ahead ≡ flat_map event_record more ++ rest → (events ≡ others) × (ahead ≡ rest)
ended_by events others [] ahead rest number error apart fault all others_are ahead_is =
    (sym (others_are ∙ append-nil events), ahead_is)
ended_by events others (event ∷ more) ahead rest number error apart fault all others_are ahead_is =
    absurd (not_both IsEventPacket (packet_of event) number ahead (flat_map event_record more ++ rest) error apart (event, refl)
    (first_record event more rest ahead all.0 ahead_is) fault)

fault_ends : (events others : List Event) (ahead rest : List ℕ) (number : ℕ) (error : TranscriptError) → error ≢ NoMemory
    → EventFault number ahead error → Extends events ahead others rest → (events ≡ others) × (ahead ≡ rest)
fault_ends events others ahead rest number error apart fault on =
    ended_by events others on.more ahead rest number error apart fault on.spelled on.others_are on.ahead_is

-- ---- what is read up to a stage has all that comes before

opens : (stage : Stage) (bytes : List ℕ) (events : List Event) (ahead : List ℕ) → 1 ≤ rank stage
    → ReadUpTo stage bytes events ahead → (opened : List ℕ) × (bytes ≡ transcript_opening ++ opened)
opens stages.Opening bytes events ahead far read = absurd (omega (arith, far))
opens stages.Init bytes events ahead far read = (ahead, read.1)
opens stages.Version bytes events ahead far read = (read.1.opened, read.1.opening)
opens stages.Events bytes events ahead far read = (read.opened, read.opening)

inits : (stage : Stage) (bytes : List ℕ) (events : List Event) (ahead : List ℕ) → 2 ≤ rank stage
    → ReadUpTo stage bytes events ahead → (rest : List ℕ) × BeginsWithInit bytes rest
inits stages.Opening bytes events ahead far read = absurd (omega (arith, far))
inits stages.Init bytes events ahead far read = absurd (omega (arith, far))
inits stages.Version bytes events ahead far read = (ahead, read.1)
inits stages.Events bytes events ahead far read =
    let p = handshake_parts read.opened read.records read.handshake in
    (p.middle, record { opened = read.opened; opening = read.opening; init = p.init })

versions : (stage : Stage) (bytes : List ℕ) (events : List Event) (ahead : List ℕ) → 3 ≤ rank stage
    → ReadUpTo stage bytes events ahead → (middle rest : List ℕ) × BeginsWithInit bytes middle × BeginsVersion middle rest
versions stages.Opening bytes events ahead far read = absurd (omega (arith, far))
versions stages.Init bytes events ahead far read = absurd (omega (arith, far))
versions stages.Version bytes events ahead far read = absurd (omega (arith, far))
versions stages.Events bytes events ahead far read =
    let p = handshake_parts read.opened read.records read.handshake in
    (p.middle, read.records, record { opened = read.opened; opening = read.opening; init = p.init }, p.version)

one_init : (bytes ahead rest : List ℕ) → BeginsWithInit bytes ahead → BeginsWithInit bytes rest → ahead ≡ rest
one_init bytes ahead rest one other =
    let opened : other.opened ≡ one.opened = same_opened bytes other.opened one.opened other.opening one.opening in
    let begins : Begins one.opened other.init.packet rest =
    subst (λ (l : List ℕ). Begins l other.init.packet rest) opened other.init.begins in
    (begins_one one.opened one.init.packet other.init.packet ahead rest one.init.begins begins).1

rank_most : (stage : Stage) → rank stage ≤ 3
rank_most stages.Opening = omega arith
rank_most other = omega arith

-- after a fault nothing is read
none_later : (s t : Stage) (bytes : List ℕ) (events others : List Event) (ahead rest : List ℕ) (number : ℕ) (error : TranscriptError)
    → error ≢ NoMemory → rank s < rank t → ReadUpTo s bytes events ahead → FaultAhead s number ahead error
    → ReadUpTo t bytes others rest → ⊥
none_later stages.Opening t bytes events others ahead rest number error apart less read fault other =
    let opened = opens t bytes others rest (omega (arith, less)) other in
    fault.1 opened.0 (sym read.1 ∙ opened.1)
none_later stages.Init t bytes events others ahead rest number error apart less read fault other =
    let with_init = inits t bytes others rest (omega (arith, less)) other in
    let opened : with_init.1.opened ≡ ahead = same_opened bytes with_init.1.opened ahead with_init.1.opening read.1 in
    let init = with_init.1.init in
    not_both IsInit init.packet 1 ahead with_init.0 error apart init.is_kind
    (subst (λ (l : List ℕ). Begins l init.packet with_init.0) opened init.begins) fault
none_later stages.Version t bytes events others ahead rest number error apart less read fault other =
    let both = versions t bytes others rest (omega (arith, less)) other in
    let middle : both.0 ≡ ahead = one_init bytes both.0 ahead both.2 read.1 in
    let version = both.3 in
    not_both IsVersion version.packet 2 ahead both.1 error apart version.is_kind
    (subst (λ (l : List ℕ). Begins l version.packet both.1) middle version.begins) fault
none_later stages.Events t bytes events others ahead rest number error apart less read fault other =
    absurd (omega (arith, less, rank_most t))

-- ---- one fault

same_stage : (s : Stage) (bytes : List ℕ) (events others : List Event) (ahead rest : List ℕ) (a b : TranscriptError)
    → a ≢ NoMemory → b ≢ NoMemory → ReadUpTo s bytes events ahead → ReadUpTo s bytes others rest
    → FaultAhead s (number_after_events events) ahead a → FaultAhead s (number_after_events others) rest b → (events ≡ others) × (a ≡ b)
same_stage stages.Opening bytes events others ahead rest a b not_a not_b one other for_a for_b =
    (one.0 ∙ sym other.0, for_a.0 ∙ sym for_b.0)
same_stage stages.Init bytes events others ahead rest a b not_a not_b one other for_a for_b =
    let same : rest ≡ ahead = same_opened bytes rest ahead other.1 one.1 in
    (one.0 ∙ sym other.0, kind_one IsInit 1 ahead a b not_a not_b for_a (subst (λ (l : List ℕ). KindFault IsInit 1 l b) same for_b))
same_stage stages.Version bytes events others ahead rest a b not_a not_b one other for_a for_b =
    let same : rest ≡ ahead = one_init bytes rest ahead other.1 one.1 in
    (one.0 ∙ sym other.0, kind_one IsVersion 2 ahead a b not_a not_b for_a (subst (λ (l : List ℕ). KindFault IsVersion 2 l b) same for_b))
same_stage stages.Events bytes events others ahead rest a b not_a not_b one other for_a for_b =
    let same : (others ≡ events) × (rest ≡ ahead) =
    elim (beginnings_compared bytes events others ahead rest one other) [
      | inl on ↦
          let ended = fault_ends events others ahead rest (number_after_events events) a not_a for_a.1 on in
          (sym ended.0, sym ended.1)
      | inr on ↦ fault_ends others events rest ahead (number_after_events others) b not_b for_b.1 on
    ] in
    let number : number_after_events others ≡ number_after_events events = ap number_after_events same.0 in
    let here : EventFault (number_after_events others) ahead b =
    subst (λ (l : List ℕ). EventFault (number_after_events others) l b) same.1 for_b.1 in
    let there : EventFault (number_after_events events) ahead b = subst (λ (n : ℕ). EventFault n ahead b) number here in
    (sym same.0, kind_one IsEventPacket (number_after_events events) ahead a b not_a not_b for_a.1 there)

in_order : (s t : Stage) → (rank s < rank t) ⊎ ((t ≡ s) ⊎ (rank t < rank s))
in_order stages.Opening stages.Opening = inr (inl refl)
in_order stages.Opening stages.Init = inl (omega arith)
in_order stages.Opening stages.Version = inl (omega arith)
in_order stages.Opening stages.Events = inl (omega arith)
in_order stages.Init stages.Opening = inr (inr (omega arith))
in_order stages.Init stages.Init = inr (inl refl)
in_order stages.Init stages.Version = inl (omega arith)
in_order stages.Init stages.Events = inl (omega arith)
in_order stages.Version stages.Opening = inr (inr (omega arith))
in_order stages.Version stages.Init = inr (inr (omega arith))
in_order stages.Version stages.Version = inr (inl refl)
in_order stages.Version stages.Events = inl (omega arith)
in_order stages.Events stages.Opening = inr (inr (omega arith))
in_order stages.Events stages.Init = inr (inr (omega arith))
in_order stages.Events stages.Version = inr (inr (omega arith))
in_order stages.Events stages.Events = inr (inl refl)

pub one_fault : (bytes : List ℕ) (events others : List Event) (a b : TranscriptError) → FaultAfter bytes events a
    → FaultAfter bytes others b → a ≢ NoMemory → b ≢ NoMemory → (events ≡ others) × (a ≡ b)
one_fault bytes events others a b one other not_a not_b = elim (in_order one.stage other.stage) [
  | inl less ↦
      absurd (none_later one.stage other.stage bytes events others one.ahead other.ahead (number_after_events events) a not_a less one.read one.fault other.read)
  | inr (inl same) ↦
      same_stage one.stage bytes events others one.ahead other.ahead a b not_a not_b one.read
      (subst (λ (s : Stage). ReadUpTo s bytes others other.ahead) same other.read) one.fault
      (subst (λ (s : Stage). FaultAhead s (number_after_events others) other.ahead b) same other.fault)
  | inr (inr more) ↦
      absurd (none_later other.stage one.stage bytes others events other.ahead one.ahead (number_after_events others) b not_b more other.read other.fault one.read)
]

-- ---- a fault, and a beginning of the same bytes

-- the events of a beginning come first in those before a fault
pub record ComeFirst (others events : List Event) : Type 0 where
  pub more : List Event
  pub events_are : events ≡ others ++ more

first_at_events : (bytes : List ℕ) (events others : List Event) (ahead rest : List ℕ) (number : ℕ) (error : TranscriptError)
    → error ≢ NoMemory → BeginsRecord events bytes ahead → EventFault number ahead error → BeginsRecord others bytes rest
    → ComeFirst others events
first_at_events bytes events others ahead rest number error apart read fault begins =
    elim (beginnings_compared bytes events others ahead rest read begins) [
      | inl on ↦
          let ended = fault_ends events others ahead rest number error apart fault on in
          record { more = []; events_are = ended.0 ∙ sym (append-nil others) }
      | inr on ↦ record { more = on.more; events_are = on.others_are }
    ]

first_at : (stage : Stage) (bytes : List ℕ) (events others : List Event) (ahead rest : List ℕ) (number : ℕ) (error : TranscriptError)
    → error ≢ NoMemory → ReadUpTo stage bytes events ahead → FaultAhead stage number ahead error → BeginsRecord others bytes rest
    → ComeFirst others events
first_at stages.Opening bytes events others ahead rest number error apart read fault begins =
    absurd (none_later stages.Opening stages.Events bytes events others ahead rest number error apart (omega arith) read fault begins)
first_at stages.Init bytes events others ahead rest number error apart read fault begins =
    absurd (none_later stages.Init stages.Events bytes events others ahead rest number error apart (omega arith) read fault begins)
first_at stages.Version bytes events others ahead rest number error apart read fault begins =
    absurd (none_later stages.Version stages.Events bytes events others ahead rest number error apart (omega arith) read fault begins)
first_at stages.Events bytes events others ahead rest number error apart read fault begins =
    first_at_events bytes events others ahead rest number error apart read fault.1 begins

pub first_before_fault : (bytes : List ℕ) (events others : List Event) (rest : List ℕ) (error : TranscriptError) → error ≢ NoMemory
    → FaultAfter bytes events error → BeginsRecord others bytes rest → ComeFirst others events
first_before_fault bytes events others rest error apart fault begins =
    first_at fault.stage bytes events others fault.ahead rest (number_after_events events) error apart fault.read fault.fault begins
