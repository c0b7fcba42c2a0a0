use Rattle.sftp_audit.proofs.Imports.{◌≡◌, inl, inr, ℕ, ◌+◌, ◌-◌, ◌^◌, min, List, [], ◌∷◌, ◌++◌, length, Bool, Option}
use Rattle.sftp_audit.proofs.Imports.{Some, None, if◌then◌else◌, refl, subst, ◌∙◌, true, arith, TranscriptError}
use Rattle.sftp_audit.proofs.Imports.{Event, Asked, Replied, exchanges_of, Reading, StepOf, FollowsOf, Refusal}
use Rattle.sftp_audit.proofs.Imports.{Audited, StandsFor, Refuses, IsTold, IsNew, IsNoJudgement, WasFed, StopsFeed}
use Rattle.sftp_audit.proofs.Imports.{IsToldOf, request_count, is_request, HasRefused, error_of_transcript}
use Rattle.sftp_audit.proofs.Imports.{error_of_session, recorded_exchanges, ◌≢◌, sym, ap, append_assoc, false, Result}
use Rattle.sftp_audit.proofs.Imports.{Ok, Err, Tree, Explained, Sound, sound_by, records_are_one_lem, AuditError}
use Rattle.sftp_audit.proofs.Imports.{LacksReply, FaultAt, RefusedAt, IsTreeError, ToldAt, IsExcusedBy, IsPlain}
use Rattle.sftp_audit.proofs.Imports.{begins_each, faulty_records_none}
use Rattle.sftp_transcript.specs.Transcript.{BeginsRecord, IsRecord}
use Rattle.sftp_transcript.specs.Sound.{ReadUpTo, HasGiven, GaveFrom, FaultOf}
use Rattle.sftp_transcript.specs.declared.stage.Stage.{Stage}
use Rattle.sftp_transcript.specs.declared.errors.TranscriptError.TheVariants as transcript_errors
use Rattle.sftp_transcript.specs.declared.stage.Stage.TheVariants as stages
use Rattle.sftp_audit.specs.declared.errors.Refusal.TheVariants as refusals
use Rattle.std.specs.Result.{IfErr}
use Rattle.sftp_audit.specs.declared.errors.AuditError.TheVariants as audit_errors
use Rattle.sftp_audit.proofs.streams.FirstFaults.{unlike_fault, unlike_refusal}
use Rattle.sftp_audit.proofs.auditing.Standing.{refuses_unsound, lacks_lost}
use Rattle.sftp_audit.specs.Cuts.{IsUnanswered}
use Rattle.sftp_audit.specs.Trees.{AccountsFrom, AccountsCutFrom, IsFirstFaultFrom, IsToldFrom}
use Rattle.sftp_audit.proofs.steps.{HasOneEnd}
pub mod FirstFaults
pub mod Starts

-- ==== What an auditor is fed from a reader, event by event.

-- the events so far were given and fed, and so many of them are requests
pub record IsFeeding {S : Type 0} (step : StepOf S) (start : S) (transcript : List ℕ) (requests : ℕ)
    (auditor : Audited S) (records : Reading) : Type 0
  where
    pub seen : List Event
    pub ahead : List ℕ
    pub given : HasGiven transcript seen ahead records
    pub stands : StandsFor step start seen auditor
    pub counted : requests ≡ request_count seen

-- from wherever nothing was read and nothing was fed
abbrev pub KeepsFeeding : {S : Type 0} → StepOf S → Audited S → Reading → ℕ → Audited S → Reading → Type 0
KeepsFeeding {S} step auditor records requests auditor_now records_now =
    (start : S) (transcript : List ℕ) → IsNew transcript records → StandsFor step start [] auditor
    → IsFeeding step start transcript requests auditor_now records_now

pub feeding-start : {S : Type 0} (step : StepOf S) (auditor : Audited S) (records : Reading)
    → KeepsFeeding step auditor records 0 auditor records
unfolding exchanges_of
feeding-start step auditor records = λ start transcript new stands. record {
  seen = [];
  ahead = transcript;
  given = new.0;
  stands = stands;
  counted = refl;
}

-- ---- how many requests

abbrev ones : Bool → ℕ
ones bit = if bit then 1 else 0

pub exchanges-one_more : (events : List Event) (event : Event)
    → length (exchanges_of (events ++ event ∷ [])) ≡ length (exchanges_of events) + ones (is_request event)
unfolding exchanges_of
exchanges-one_more [] (Asked request) = refl
exchanges-one_more [] (Replied reply) = refl
exchanges-one_more (Asked request ∷ events) event = let e = exchanges-one_more events event in omega (arith, e)
exchanges-one_more (Replied reply ∷ events) event = exchanges-one_more events event

pub request_count-one_more : (events : List Event) (event : Event) (old : ℕ) → old ≡ request_count events
    → min (old + ones (is_request event)) (2 ^ 64 - 1) ≡ request_count (events ++ event ∷ [])
request_count-one_more events event old e =
    rw (exchanges-one_more events event) (omega (arith, e))

-- ---- one step

-- what was given is this event
pub gave_event : (transcript : List ℕ) (seen : List Event) (given : Option Event) (records : Reading) (event : Event)
    → given ≡ Some event → GaveFrom transcript seen given records → GaveFrom transcript seen (Some event) records
gave_event transcript seen given records event is gave =
    subst (λ (o : Option Event). GaveFrom transcript seen o records) is gave

module _ {S : Type 0} (step : StepOf S) where
  pub feeding-next : (start : S) (transcript : List ℕ) (requests : ℕ) (auditor auditor_now : Audited S)
      (records records_now : Reading) (event : Event)
      → (feeding : IsFeeding step start transcript requests auditor records)
      → GaveFrom transcript feeding.seen (Some event) records_now
      → StandsFor step start (feeding.seen ++ event ∷ []) auditor_now
      → IsFeeding step start transcript (min (requests + ones (is_request event)) (2 ^ 64 - 1)) auditor_now records_now
  feeding-next start transcript requests auditor auditor_now records records_now event feeding gave stands = record {
    seen = feeding.seen ++ event ∷ [];
    ahead = gave.0;
    given = gave.1;
    stands = stands;
    counted = request_count-one_more feeding.seen event requests feeding.counted;
  }

-- ---- the end

none_given : (transcript : List ℕ) (events : List Event) (given : Option Event) (new : Reading)
    → ((event : Event) → given ≡ Some event → ⊥) → GaveFrom transcript events given new → IsRecord events transcript
none_given transcript events (Some event) new other gave = absurd (other event refl)
none_given transcript events None new other gave =
    subst (λ (stage : Stage). ReadUpTo stage transcript events []) gave.1 gave.0.read

module _ {S : Type 0} (step : StepOf S) where
  pub all-fed : (start : S) (transcript : List ℕ) (requests : ℕ) (auditor : Audited S)
      (records records_now : Reading) (given : Option Event)
      → (feeding : IsFeeding step start transcript requests auditor records) → ((event : Event) → given ≡ Some event → ⊥)
      → GaveFrom transcript feeding.seen given records_now → WasFed step start transcript requests auditor
  all-fed start transcript requests auditor records records_now given feeding other gave = record {
    events = feeding.seen;
    recorded = none_given transcript feeding.seen given records_now other gave;
    stands = feeding.stands;
    counted = feeding.counted;
  }

-- ---- stops

module _ {S : Type 0} (step : StepOf S) where
  pub stops-fault : (start : S) (transcript : List ℕ) (requests : ℕ) (auditor : Audited S) (records : Reading)
      (error : TranscriptError) → (feeding : IsFeeding step start transcript requests auditor records)
      → FaultOf transcript feeding.seen error
      → (IsNoJudgement (error_of_transcript error) → ⊥) → StopsFeed step start transcript (error_of_transcript error)
  stops-fault start transcript requests auditor records transcript_errors.NoMemory feeding why judged = tt
  stops-fault start transcript requests auditor records (transcript_errors.Io number) feeding why judged =
      absurd (judged tt)
  stops-fault start transcript requests auditor records other feeding (inl excuse) judged = absurd excuse
  stops-fault start transcript requests auditor records other feeding (inr fault) judged = record {
    events = feeding.seen;
    end = auditor.state;
    sound = feeding.stands.sound;
    fault = fault;
  }

begun_by : (stage : Stage) (bytes : List ℕ) (seen : List Event) (event : Event) (ahead : List ℕ)
    → ReadUpTo stage bytes (seen ++ event ∷ []) ahead → BeginsRecord (seen ++ event ∷ []) bytes ahead
begun_by stages.Events bytes seen event ahead read = read
begun_by stage bytes [] event ahead read = cc
begun_by stage bytes (first ∷ seen) event ahead read = cc

module _ {S : Type 0} (step : StepOf S) where
  pub stops-refused : (start : S) (transcript : List ℕ) (requests : ℕ) (auditor : Audited S)
      (records records_now : Reading) (event : Event) (refusal : Refusal)
      → (feeding : IsFeeding step start transcript requests auditor records)
      → GaveFrom transcript feeding.seen (Some event) records_now → Refuses step start feeding.seen event refusal
      → StopsFeed step start transcript (error_of_session refusal)
  stops-refused start transcript requests auditor records records_now event refusals.NoMemory feeding gave why = tt
  stops-refused start transcript requests auditor records records_now event other feeding gave why = record {
    events = feeding.seen;
    event = event;
    rest = gave.0;
    begins = begun_by records_now.stage transcript feeding.seen event gave.0 gave.1.read;
    end = auditor.state;
    sound = feeding.stands.sound;
    refuses = why;
  }

-- ---- after a stop

pub fault-refuses_nothing : {S : Type 0} (auditor : Audited S) (error : TranscriptError)
    → HasRefused (error_of_transcript error) auditor
fault-refuses_nothing auditor transcript_errors.NoMemory = tt
fault-refuses_nothing auditor other = tt

pub refused-for_good : {S : Type 0} (auditor : Audited S) (refusal : Refusal)
    → (auditor.refusal ≡ Some refusal) × (auditor.kept ≡ []) → HasRefused (error_of_session refusal) auditor
refused-for_good auditor refusals.NoMemory why = tt
refused-for_good auditor other why = why

-- ---- what is told of a stop

-- a fault that is not one of memory or of the source tells nothing
pub told-fault : {S : Type 0} (step : StepOf S) (follows : FollowsOf S) (start : S) (transcript : List ℕ) (told : Bool)
    (error : TranscriptError) → told ≡ true → IsToldOf step follows start transcript told (error_of_transcript error)
told-fault step follows start transcript told transcript_errors.NoMemory same = same
told-fault step follows start transcript told other same = same

pub told-refused : {S : Type 0} (step : StepOf S) (follows : FollowsOf S) (start : S) (transcript : List ℕ)
    (requests : ℕ) (auditor : Audited S) (records records_now : Reading) (event : Event) (told : Bool)
    (refusal : Refusal) → (feeding : IsFeeding step start transcript requests auditor records)
    → GaveFrom transcript feeding.seen (Some event) records_now
    → IsTold step follows start (recorded_exchanges (feeding.seen ++ event ∷ [])) auditor.follows told refusal
    → IsToldOf step follows start transcript told (error_of_session refusal)
told-refused step follows start transcript requests auditor records records_now event told refusals.NoMemory feeding
    gave is = is ∙ feeding.stands.followed
told-refused step follows start transcript requests auditor records records_now event told other feeding gave is =
    record {
      events = feeding.seen;
      event = event;
      rest = gave.0;
      begins = begun_by records_now.stage transcript feeding.seen event gave.0 gave.1.read;
      is_told = subst
          (λ (before : Bool).
          IsTold step follows start (recorded_exchanges (feeding.seen ++ event ∷ [])) before told other)
          feeding.stands.followed is;
    }

-- ==== What the parts of an audit say of the whole, from the state in which the session begins.

-- no run is accounted for from a state
abbrev pub HasNoRunFrom : {S : Type 0} → StepOf S → (S → Tree) → S → List ℕ → Type 0
HasNoRunFrom step close start transcript =
    (events : List Event) (end : Tree) → AccountsFrom step close start transcript events end → ⊥

-- no session is accounted for, not even one that was cut
abbrev pub HasNoCutFrom : {S : Type 0} → StepOf S → (S → Tree) → S → List ℕ → Type 0
HasNoCutFrom step close start transcript =
    (events : List Event) (end : Tree) → AccountsCutFrom step close start transcript events end → ⊥

module _ {S : Type 0} (step : StepOf S) (one_end : HasOneEnd step) (close : S → Tree) (start : S) (transcript : List ℕ)
  where
    -- ---- records and their events

    -- a run accounts for a session that was cut at its end
    pub no_run : HasNoCutFrom step close start transcript → HasNoRunFrom step close start transcript
    no_run none events end told =
        none events end (record {
          events_are = told.events_are;
          last = told.last;
          sound = sound_by step start events told.last told.explained;
          end_is = told.end_is;
        })

    fault-lost : (error : TranscriptError) → error ≢ transcript_errors.NoMemory
        → FaultAt step start transcript error → HasNoCutFrom step close start transcript
    fault-lost error apart at = λ events end told.
        faulty_records_none transcript at.events events error apart at.fault told.events_are

    refused-lost : (refusal : Refusal) → refusal ≢ refusals.NoMemory
        → RefusedAt step start transcript refusal → HasNoCutFrom step close start transcript
    refused-lost refusal apart at = λ events end told.
        let on = begins_each (at.events ++ at.event ∷ []) events transcript at.rest at.begins told.events_are in
        let are : events ≡ at.events ++ at.event ∷ on.more =
        on.others_are ∙ append_assoc at.events (at.event ∷ []) on.more in
        refuses_unsound step one_end start at.events at.event refusal at.end at.sound at.refuses apart on.more
        told.last (subst (λ (l : List Event). Sound step start l told.last) are told.sound)

    pub feed-lost : (error : AuditError) → IsPlain error → (IsNoJudgement error → ⊥)
        → StopsFeed step start transcript error → HasNoCutFrom step close start transcript
    feed-lost (audit_errors.Tree error) plain judged stops = absurd stops
    feed-lost audit_errors.NoMemory plain judged stops = absurd (judged tt)
    feed-lost (audit_errors.Transcript error) plain judged stops = fault-lost error (unlike_fault error plain) stops
    feed-lost (audit_errors.Refused refusal) plain judged stops =
        refused-lost refusal (unlike_refusal refusal plain) stops

    pub feed-first : (error : AuditError) → StopsFeed step start transcript error
        → IsFirstFaultFrom step start transcript error
    feed-first (audit_errors.Tree error) stops = absurd stops
    feed-first audit_errors.NoMemory stops = tt
    feed-first (audit_errors.Transcript error) stops = stops
    feed-first (audit_errors.Refused refusal) stops = inl stops

    -- ---- the end

    pub end-lost : (requests : ℕ) (auditor : Audited S) (refusal : Refusal)
        → (fed : WasFed step start transcript requests auditor) → LacksReply fed.events refusal
        → HasNoRunFrom step close start transcript
    end-lost requests auditor refusal fed lacks = λ events end told.
        let same : events ≡ fed.events =
        records_are_one_lem events fed.events transcript told.events_are fed.recorded in
        lacks_lost step one_end start fed.events refusal auditor.state fed.stands.sound lacks told.last
        (subst (λ (l : List Event). Explained step start l told.last) same told.explained)

    pub end-first : (requests : ℕ) (auditor : Audited S) (refusal : Refusal)
        → (fed : WasFed step start transcript requests auditor) → LacksReply fed.events refusal
        → IsFirstFaultFrom step start transcript (error_of_session refusal)
    end-first requests auditor refusals.NoMemory fed lacks = tt
    end-first requests auditor other fed lacks = inr (record {
      events = fed.events;
      recorded = fed.recorded;
      end = auditor.state;
      sound = fed.stands.sound;
      lacks = lacks;
    })

    -- the end is the tree where the run ends
    pub accounts-fed : (requests : ℕ) (auditor : Audited S) (end : Tree)
        → (fed : WasFed step start transcript requests auditor)
        → (last : S) × Explained step start fed.events last × (end ≡ close last)
        → AccountsFrom step close start transcript fed.events end
    accounts-fed requests auditor end fed ended = record {
      events_are = fed.recorded;
      last = ended.0;
      explained = ended.1;
      end_is = ended.2;
    }

    -- the end of a session that was cut is the tree of the state that the auditor kept
    pub accounts-cut : (requests : ℕ) (auditor : Audited S) (end : Tree)
        → (fed : WasFed step start transcript requests auditor) → end ≡ close auditor.state
        → AccountsCutFrom step close start transcript fed.events end
    accounts-cut requests auditor end fed same = record {
      events_are = fed.recorded;
      last = auditor.state;
      sound = fed.stands.sound;
      end_is = same;
    }

-- ---- while events are fed

unanswered_at_end : {S : Type 0} (step : StepOf S) (start : S) (events : List Event) (event : Event) (number : ℕ)
    → Refuses step start events event (refusals.Unanswered number) → ⊥
unanswered_at_end step start events (Asked request) number why = absurd why
unanswered_at_end step start events (Replied reply) number why = absurd why

-- no error says that a request has no reply
pub feed-answered : {S : Type 0} (step : StepOf S) (start : S) (transcript : List ℕ) (error : AuditError)
    → StopsFeed step start transcript error → IsUnanswered error → ⊥
feed-answered step start transcript (audit_errors.Refused (refusals.Unanswered number)) stops is =
    unanswered_at_end step start stops.events stops.event number stops.refuses
feed-answered step start transcript other stops is = absurd is

-- ---- an audit of bytes in memory

judges : (error : AuditError) → error ≢ audit_errors.NoMemory → IsExcusedBy false error → IsNoJudgement error → ⊥
judges audit_errors.NoMemory apart excused none = apart refl
judges (audit_errors.Transcript (transcript_errors.Io number)) apart excused none = absurd cc
judges other apart excused none = absurd none

abbrev fresh : List ℕ → ℕ → ℕ → Reading
fresh bytes failures reads = record {
  ahead = record { held = []; left = Some bytes; failures = failures; reads_left = reads };
  stage = stages.Opening;
  number = 3;
  fault = None;
}

is_new : (bytes : List ℕ) (failures reads : ℕ) → IsNew bytes (fresh bytes failures reads)
is_new bytes failures reads =
    (record { ahead_are = refl; read = (refl, refl); number = refl; faultless = refl }, refl)

-- what a refusal says of the bytes that a new reader has
pub refused-memory : {T : Type 0} (IsLost : List ℕ → Type 0) (bytes left : List ℕ) (failures reads : ℕ)
    (records : Reading) (result : Result T AuditError) → left ≡ bytes → records ≡ fresh left failures reads
    → IfErr result (λ e. (IsNoJudgement e → ⊥) → (transcript : List ℕ) → IsNew transcript records → IsLost transcript)
    → (records.fault ≡ None → IfErr result (IsExcusedBy false))
    → IfErr result (λ e. e ≢ audit_errors.NoMemory → IsLost bytes)
refused-memory IsLost bytes left failures reads records (Ok value) same is refused excused = tt
refused-memory IsLost bytes left failures reads records (Err error) same is refused excused = λ apart.
    let new : IsNew bytes records =
    subst (λ (r : Reading). IsNew bytes r) (ap (λ (l : List ℕ). fresh l failures reads) (sym same) ∙ sym is)
    (is_new bytes failures reads) in
    refused (judges error apart (excused new.0.faultless)) bytes new

-- ---- what is told

module _ {S : Type 0} (step : StepOf S) (follows : FollowsOf S) (start : S) (transcript : List ℕ) where
  told-kind : (told : Bool) (refusal : Refusal) → ToldAt step follows start transcript told refusal
      → IsToldFrom step follows start transcript told (audit_errors.Refused refusal)
  told-kind told (refusals.NotAllowed number) at = at
  told-kind told other at = at.is_told

  pub told-feed : (told : Bool) (error : AuditError) → IsToldOf step follows start transcript told error
      → IsToldFrom step follows start transcript told error
  told-feed told (audit_errors.Refused refusal) at = told-kind told refusal at
  told-feed told other at = at

  -- at the end a request without a reply is all that can be wrong
  pub told-end : (events : List Event) (told : Bool) (refusal : Refusal) → told ≡ true → LacksReply events refusal
      → IsToldFrom step follows start transcript told (error_of_session refusal)
  told-end events told (refusals.NotAllowed number) same lacks = absurd lacks
  told-end events told refusals.NoMemory same lacks = same
  told-end events told other same lacks = same

-- no error of the end says that the bytes are no tree
pub end-treeless : (refusal : Refusal) → IsTreeError (error_of_session refusal) → ⊥
end-treeless refusals.NoMemory is = absurd is
end-treeless other is = absurd is
