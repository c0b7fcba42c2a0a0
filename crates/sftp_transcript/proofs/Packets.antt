-- The next record, behind the opening and before it, and the fault in its place.
use Rattle.sftp_transcript.proofs.Imports.{◌≡◌, ◌≢◌, ℕ, ◌<◌, ◌≤◌, ◌⊎◌, inl, inr, List, [], ◌++◌, length, Option, Some}
use Rattle.sftp_transcript.proofs.Imports.{None, refl, sym, ap, ◌∙◌, subst, arith}
use Rattle.sftp_transcript.proofs.Imports.{IsAtEnd, append_cancel_left, Packet, TranscriptError}
use Rattle.sftp_transcript.proofs.Imports.{NoMemory, Stage, Ahead, CutsAtEnd, FaultAhead}
use Rattle.sftp_transcript.proofs.Imports.{MayCome}
use Rattle.sftp_transcript.proofs.Imports.{record_number, stage_after, BeginsNext, FaultNext, GivenRecord, GivesPacket}
use Rattle.sftp_transcript.proofs.Imports.{GivesNext, IsStageThen, Begins, IsInit, IsVersion, Reading}
use Rattle.sftp_transcript.proofs.Imports.{rank, HasAhead, IsExcuse, transcript_opening}
use Rattle.sftp_transcript.specs.Packets.{stage_opened, IsAfterOpening}
use Rattle.sftp_transcript.specs.declared.stage.Stage.TheVariants as stages
use Rattle.sftp_transcript.specs.Transcript.{KindFault, IsEventPacket, FaultIn}
use Rattle.sftp_transcript.proofs.Fronts.{fault_ahead, event_fault}
use Rattle.sftp_transcript.proofs.Reaching.{memory_or}
use Rattle.sftp_transcript.proofs.transcripts.{not_both}
use Rattle.sftp_transcript.proofs.transcripts.{begins_one}

-- ---- what is taken from the bytes held

pub stage_fault : (stage : Stage) (number : ℕ) (m : Ahead) (before : List ℕ) (error : TranscriptError) → 1 ≤ rank stage → HasAhead m before
    → (m.held ≡ [] → IsAtEnd m.left) → CutsAtEnd m → (stage ≡ stages.Events → 0 < length m.held)
    → KindFault (MayCome stage) (record_number stage number) m.held error → IsExcuse error ⊎ FaultAhead stage number before error
stage_fault stages.Opening number m before error begun known end part some fault = absurd (omega (arith, begun))
stage_fault stages.Init number m before error begun known end part some fault = fault_ahead IsInit 1 m before error known end part fault
stage_fault stages.Version number m before error begun known end part some fault = fault_ahead IsVersion 2 m before error known end part fault
stage_fault stages.Events number m before error begun known end part some fault = event_fault number m before error known end part (some refl) fault

-- the fault of the bytes held is that of this stage
pub fault_held : (stage : Stage) (number : ℕ) (held : List ℕ) (error : TranscriptError) → 1 ≤ rank stage
    → KindFault (MayCome stage) (record_number stage number) held error → FaultIn stage number held error
fault_held stages.Opening number held error begun fault = absurd (omega (arith, begun))
fault_held stages.Init number held error begun fault = inr fault
fault_held stages.Version number held error begun fault = inr fault
fault_held stages.Events number held error begun fault = inr fault

-- ---- after the opening

-- what is next after the opening is next before it
next_opened : (old : Stage) (before records : List ℕ) (packet : Packet) (rest : List ℕ) → IsAfterOpening old before records
    → BeginsNext (stage_opened old) records packet rest → BeginsNext old before packet rest
next_opened stages.Opening before records packet rest is n = record {
  records = n.records;
  opened = is ∙ ap (λ (l : List ℕ). transcript_opening ++ l) (sym n.opened);
  may_come = n.may_come;
  begins = n.begins;
}
next_opened other before records packet rest is n = record { records = n.records; opened = n.opened ∙ is; may_come = n.may_come; begins = n.begins }

behind_opened : (old : Stage) → stage_after (stage_opened old) ≡ stage_after old
behind_opened stages.Opening = refl
behind_opened other = refl

events_opened : (old : Stage) → stage_opened old ≡ stages.Events → old ≡ stages.Events
events_opened stages.Opening e = absurd cc
events_opened stages.Init e = absurd cc
events_opened stages.Version e = absurd cc
events_opened stages.Events e = refl

stage_then : (old : Stage) (given : Option GivenRecord) (new : Stage) → IsStageThen (stage_opened old) given new
    → IsStageThen old given new
stage_then old (Some g) new is = is ∙ behind_opened old
stage_then old None new is = (events_opened old is.0, is.1)

pub stage_then_opened : (old mid : Stage) (given : Option GivenRecord) (new : Stage) → mid ≡ stage_opened old
    → IsStageThen mid given new → IsStageThen old given new
stage_then_opened old mid given new e is =
    stage_then old given new (subst (λ (s : Stage). IsStageThen s given new) e is)

none_opened : (old : Stage) (before records : List ℕ) → IsAfterOpening old before records → stage_opened old ≡ stages.Events → records ≡ []
    → (old ≡ stages.Events) × (before ≡ [])
none_opened stages.Opening before records is e none = absurd cc
none_opened stages.Init before records is e none = absurd cc
none_opened stages.Version before records is e none = absurd cc
none_opened stages.Events before records is e none = (refl, sym is ∙ none)

given_opened : (old : Stage) (before records : List ℕ) (given : Option GivenRecord) (new : Reading) → IsAfterOpening old before records
    → GivesNext (stage_opened old) records given new → GivesNext old before given new
given_opened old before records (Some g) new is gives =
    (gives.0 ∙ behind_opened old, (gives.1.0, gives.1.1, next_opened old before records g.1 gives.1.0 is gives.1.2))
given_opened old before records None new is gives =
    let p = none_opened old before records is gives.0 gives.2 in
    (p.0, gives.1, p.1, gives.3)

pub gives_opened : (old mid : Stage) (before records : List ℕ) (given : Option GivenRecord) (new : Reading) → mid ≡ stage_opened old
    → IsAfterOpening old before records → GivesNext mid records given new → GivesNext old before given new
gives_opened old mid before records given new e is gives =
    given_opened old before records given new is (subst (λ (s : Stage). GivesNext s records given new) e gives)

fault_behind : (old : Stage) (number : ℕ) (before records : List ℕ) (error : TranscriptError) → IsAfterOpening old before records
    → FaultAhead (stage_opened old) number records error → FaultNext old number before error
fault_behind stages.Opening number before records error is fault = inr (records, is, fault)
fault_behind other number before records error is fault = subst (λ (l : List ℕ). FaultAhead other number l error) is fault

pub fault_opened : (old mid : Stage) (number now : ℕ) (before records : List ℕ) (error : TranscriptError) → mid ≡ stage_opened old
    → now ≡ number → IsAfterOpening old before records → IsExcuse error ⊎ FaultAhead mid now records error
    → IsExcuse error ⊎ FaultNext old number before error
fault_opened old mid number now before records error e same is (inl excuse) = inl excuse
fault_opened old mid number now before records error e same is (inr fault) =
    let at : FaultAhead mid number records error = subst (λ (n : ℕ). FaultAhead mid n records error) same fault in
    inr (fault_behind old number before records error is (subst (λ (s : Stage). FaultAhead s number records error) e at))

-- ---- one record is next at most, and none where a fault comes next

pub one_opened : (stage : Stage) (before records others : List ℕ) → IsAfterOpening stage before records
    → IsAfterOpening stage before others → records ≡ others
one_opened stages.Opening before records others one other = append_cancel_left transcript_opening records others (sym one ∙ other)
one_opened stage before records others one other = one ∙ sym other

pub BeginsNext-one : (stage : Stage) (before : List ℕ) (p q : Packet) (x y : List ℕ) → BeginsNext stage before p x
    → BeginsNext stage before q y → (p ≡ q) × (x ≡ y)
BeginsNext-one stage before p q x y one other =
    let same = one_opened stage before other.records one.records other.opened one.opened in
    begins_one one.records p q x y one.begins (subst (λ (l : List ℕ). Begins l q y) same other.begins)

none_next : (stage : Stage) (packet : Packet) (rest : List ℕ) → stage ≡ stages.Events → BeginsNext stage [] packet rest → ⊥
none_next stages.Opening packet rest e n = absurd cc
none_next stages.Init packet rest e n = absurd cc
none_next stages.Version packet rest e n = absurd cc
none_next stages.Events packet rest e n = absurd (omega (arith, ap length n.opened, ap length n.begins.bytes_are))

pub gives_only : (stage : Stage) (before rest : List ℕ) (packet : Packet) (given : Option GivenRecord) (new : Reading)
    → GivesNext stage before given new → BeginsNext stage before packet rest → GivesPacket packet given × HasAhead new.ahead rest
gives_only stage before rest packet (Some g) new gives n =
    let same = BeginsNext-one stage before g.1 packet gives.1.0 rest gives.1.2 n in
    (same.0, gives.1.1 ∙ ap Some same.1)
gives_only stage before rest packet None new gives n =
    absurd (none_next stage packet rest gives.0 (subst (λ (l : List ℕ). BeginsNext stage l packet rest) gives.2 n))

not_next : (stage : Stage) (number : ℕ) (before rest : List ℕ) (packet : Packet) (error : TranscriptError) → error ≢ NoMemory
    → FaultNext stage number before error → BeginsNext stage before packet rest → ⊥
not_next stages.Opening number before rest packet error apart (inl fault) n = fault.1 n.records n.opened
not_next stages.Opening number before rest packet error apart (inr fault) n =
    let same = one_opened stages.Opening before n.records fault.0 n.opened fault.1 in
    not_both IsInit packet 1 fault.0 rest error apart n.may_come (subst (λ (l : List ℕ). Begins l packet rest) same n.begins) fault.2
not_next stages.Init number before rest packet error apart fault n =
    not_both IsInit packet 1 before rest error apart n.may_come (subst (λ (l : List ℕ). Begins l packet rest) n.opened n.begins) fault
not_next stages.Version number before rest packet error apart fault n =
    not_both IsVersion packet 2 before rest error apart n.may_come (subst (λ (l : List ℕ). Begins l packet rest) n.opened n.begins) fault
not_next stages.Events number before rest packet error apart fault n =
    not_both IsEventPacket packet number before rest error apart n.may_come (subst (λ (l : List ℕ). Begins l packet rest) n.opened n.begins) fault.1

pub next_excuse : (stage : Stage) (number : ℕ) (before rest : List ℕ) (packet : Packet) (error : TranscriptError)
    → IsExcuse error ⊎ FaultNext stage number before error → BeginsNext stage before packet rest → IsExcuse error
next_excuse stage number before rest packet error (inl excuse) n = excuse
next_excuse stage number before rest packet error (inr fault) n =
    memory_or error (λ apart. not_next stage number before rest packet error apart fault n)
