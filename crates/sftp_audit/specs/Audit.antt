-- Which files an auditor accepts: those of a starting tree and of a recorded session that account for a run.
use Rattle.std.specs.Prelude.{◌≡◌, ◌⊎◌, ⊤, ℕ, ◌^◌, ◌-◌, min, List, [], ◌∷◌, ◌++◌, length, Bool, true, false, IsTrue}
use Rattle.std.specs.Prelude.{Some}
use Rattle.sftp_transcript.specs.declared.events.Event.{Event}
use Rattle.sftp_transcript.specs.declared.events.Event.TheVariants.{Asked, Replied}
use Rattle.sftp_treefile.specs.declared.errors.TreeError.{TreeError}
use Rattle.sftp_treefile.specs.declared.errors.TreeError.TheVariants as tree_errors
use Rattle.sftp_transcript.specs.declared.errors.TranscriptError.{TranscriptError}
use Rattle.sftp_transcript.specs.declared.errors.TranscriptError.TheVariants as transcript_errors
use Rattle.sftp_audit.specs.declared.errors.Refusal.{Refusal}
use Rattle.sftp_audit.specs.declared.errors.Refusal.TheVariants as refusals
use Rattle.sftp_audit.specs.declared.errors.AuditError.{AuditError}
use Rattle.sftp_audit.specs.declared.errors.AuditError.TheVariants as audit_errors
use Rattle.sftp_tree.specs.Tree.{Tree}
use Rattle.sftp_tree.specs.Picture.{IsStart}
use Rattle.sftp_handles.specs.State.{State, started, closed_tree}
use Rattle.sftp_handles.specs.Allowed.{Allowed}
use Rattle.sftp_transcript.specs.Transcript.{BeginsRecord, IsRecord}
use Rattle.sftp_transcript.specs.Explained.{StepOf, Explained, exchanges_of}
use Rattle.sftp_transcript.specs.Sound.{Sound}
use Rattle.sftp_streams.specs.Streams.{one_more}
use Rattle.sftp_transcript.specs.Sound.{FaultAfter, HasGiven}
use Rattle.sftp_transcript.specs.Recorded.{Reading}
use Rattle.sftp_transcript.specs.declared.stage.Stage.TheVariants as stages
use Rattle.sftp_audit.specs.Exchanges.{recorded_exchanges}
use Rattle.sftp_audit.specs.Auditor.{Audited, StandsFor, Refuses, LacksReply, FollowsOf, IsTold}

-- the tree file is the start, the transcript records the events, these are explained from the start to a last state,
-- and the end is the tree of that state once nothing is open; `begin` says in which state a session begins on a tree,
-- and `close` is the tree of a state once nothing is open
pub record AccountsBy {S : Type 0} (step : StepOf S) (begin : Tree → S) (close : S → Tree) (tree transcript : List ℕ)
    (start : Tree) (events : List Event) (end : Tree) : Type 0
  where
    pub start_is : IsStart start tree
    pub events_are : IsRecord events transcript
    pub last : S
    pub explained : Explained step (begin start) events last
    pub end_is : end ≡ close last

-- where the replies are judged strictly
abbrev pub Accounts : List ℕ → List ℕ → Tree → List Event → Tree → Type 0
Accounts = AccountsBy Allowed started closed_tree

-- the number of requests, capped at 2^64 - 1
abbrev pub request_count : List Event → ℕ
request_count events = min (length (exchanges_of events)) (2 ^ 64 - 1)

abbrev pub is_request : Event → Bool
is_request (Asked request) = true
is_request (Replied reply) = false

-- the error of an audit, by the error of its part: `NoMemory` is the same everywhere
abbrev pub error_of_tree : TreeError → AuditError
error_of_tree tree_errors.NoMemory = audit_errors.NoMemory
error_of_tree error = audit_errors.Tree error

abbrev pub error_of_transcript : TranscriptError → AuditError
error_of_transcript transcript_errors.NoMemory = audit_errors.NoMemory
error_of_transcript error = audit_errors.Transcript error

abbrev pub error_of_session : Refusal → AuditError
error_of_session refusals.NoMemory = audit_errors.NoMemory
error_of_session refusal = audit_errors.Refused refusal

-- the bytes are the tree file of a tree
abbrev pub HasStart : List ℕ → Type 0
HasStart tree = (start : Tree) × IsStart start tree

-- an event is refused after events that are sound: the file records them, then this one, and then anything
pub record RefusedAt {S : Type 0} (step : StepOf S) (start : S) (transcript : List ℕ) (refusal : Refusal) : Type 0 where
  pub events : List Event
  pub event : Event
  pub rest : List ℕ
  pub begins : BeginsRecord (events ++ event ∷ []) transcript rest
  pub end : S
  pub sound : Sound step start events end
  pub refuses : Refuses step start events event refusal

-- the events of the whole file are sound, but one request has no reply
pub record RefusedAtEnd {S : Type 0} (step : StepOf S) (start : S) (transcript : List ℕ)
    (refusal : Refusal) : Type 0 where
  pub events : List Event
  pub recorded : IsRecord events transcript
  pub end : S
  pub sound : Sound step start events end
  pub lacks : LacksReply events refusal

-- the file has a fault after events that are sound
pub record FaultAt {S : Type 0} (step : StepOf S) (start : S) (transcript : List ℕ)
    (error : TranscriptError) : Type 0 where
  pub events : List Event
  pub end : S
  pub sound : Sound step start events end
  pub fault : FaultAfter transcript events error

-- What an audit meets first, where a step judges replies and a session begins in a state of its tree: the bytes are no
-- tree; or, record by record, the fault of a record or the refusal of its event; or, at the end, a request without a
-- reply.
abbrev pub IsFirstFaultBy : {S : Type 0} → StepOf S → (Tree → S) → List ℕ → List ℕ → AuditError → Type 0
IsFirstFaultBy step begin tree transcript (audit_errors.Tree error) = HasStart tree → ⊥
IsFirstFaultBy step begin tree transcript (audit_errors.Transcript error) =
    (start : Tree) × IsStart start tree × FaultAt step (begin start) transcript error
IsFirstFaultBy step begin tree transcript (audit_errors.Refused refusal) =
    (start : Tree) × IsStart start tree
    × (RefusedAt step (begin start) transcript refusal ⊎ RefusedAtEnd step (begin start) transcript refusal)
IsFirstFaultBy step begin tree transcript audit_errors.NoMemory = ⊤

-- where the replies are judged strictly
abbrev pub IsFirstFault : List ℕ → List ℕ → AuditError → Type 0
IsFirstFault = IsFirstFaultBy Allowed started

-- the error says that the bytes are no tree
abbrev pub IsTreeError : AuditError → Type 0
IsTreeError (audit_errors.Tree error) = ⊤
IsTreeError other = ⊥

-- what an error says of the tree file: it is malformed, or it is that of a tree; nothing if memory ran out
abbrev pub JudgesTree : List ℕ → AuditError → Type 0
JudgesTree tree (audit_errors.Tree error) = HasStart tree → ⊥
JudgesTree tree audit_errors.NoMemory = ⊤
JudgesTree tree other = HasStart tree

-- memory ran out, or the source failed
abbrev pub IsNoJudgement : AuditError → Type 0
IsNoJudgement audit_errors.NoMemory = ⊤
IsNoJudgement (audit_errors.Transcript (transcript_errors.Io number)) = ⊤
IsNoJudgement other = ⊥

-- the source failed, and its failures rose by one
abbrev pub CountsFailure : AuditError → ℕ → ℕ → Type 0
CountsFailure (audit_errors.Transcript (transcript_errors.Io number)) old new = new ≡ one_more old
CountsFailure other old new = new ≡ old

-- the source failed only if it may fail
abbrev pub IsExcusedBy : Bool → AuditError → Type 0
IsExcusedBy may_fail (audit_errors.Transcript (transcript_errors.Io number)) = IsTrue may_fail
IsExcusedBy may_fail other = ⊤

-- a reader that has read nothing yet of these bytes
abbrev pub IsNew : List ℕ → Reading → Type 0
IsNew bytes s = HasGiven bytes [] bytes s × (s.stage ≡ stages.Opening)

-- the bytes record some events; the auditor stands for these, and `requests` of them are requests
pub record WasFed {S : Type 0} (step : StepOf S) (start : S) (transcript : List ℕ) (requests : ℕ) (auditor : Audited S)
    : Type 0
  where
    pub events : List Event
    pub recorded : IsRecord events transcript
    pub stands : StandsFor step start events auditor
    pub counted : requests ≡ request_count events

-- why no further event is fed: the next record has a fault, or its event is refused
abbrev pub StopsFeed : {S : Type 0} → StepOf S → S → List ℕ → AuditError → Type 0
StopsFeed step start transcript (audit_errors.Transcript error) = FaultAt step start transcript error
StopsFeed step start transcript (audit_errors.Refused refusal) = RefusedAt step start transcript refusal
StopsFeed step start transcript audit_errors.NoMemory = ⊤
StopsFeed step start transcript (audit_errors.Tree error) = ⊥

-- a refusal is the auditor's, which returns it from then on, and no request is kept
abbrev pub HasRefused : {S : Type 0} → AuditError → Audited S → Type 0
HasRefused (audit_errors.Refused refusal) auditor = (auditor.refusal ≡ Some refusal) × (auditor.kept ≡ [])
HasRefused other auditor = ⊤

-- no other error has `NoMemory` inside
abbrev pub IsPlain : AuditError → Type 0
IsPlain (audit_errors.Tree tree_errors.NoMemory) = ⊥
IsPlain (audit_errors.Transcript transcript_errors.NoMemory) = ⊥
IsPlain (audit_errors.Refused refusals.NoMemory) = ⊥
IsPlain _ = Unit {0}

-- ---- what is not followed

-- the file records events, and the last of them is refused; this says whether the judge follows the request
pub record ToldAt {S : Type 0} (step : StepOf S) (follows : FollowsOf S) (start : S) (transcript : List ℕ) (told : Bool)
    (refusal : Refusal) : Type 0
  where
    pub events : List Event
    pub event : Event
    pub rest : List ℕ
    pub begins : BeginsRecord (events ++ event ∷ []) transcript rest
    pub is_told : IsTold step follows start (recorded_exchanges (events ++ event ∷ [])) true told refusal

-- where an event is refused, whether the judge follows the request; otherwise it follows the session
abbrev pub IsToldOf : {S : Type 0} → StepOf S → FollowsOf S → S → List ℕ → Bool → AuditError → Type 0
IsToldOf step follows start transcript told (audit_errors.Refused refusal) =
    ToldAt step follows start transcript told refusal
IsToldOf step follows start transcript told other = told ≡ true

-- the same of the audit of a tree file: a session that is refused since a reply is not allowed is told to be followed
-- or not, and every other one is taken to be
abbrev pub IsToldBy : {S : Type 0} → StepOf S → FollowsOf S → (Tree → S) → List ℕ → List ℕ → Bool → AuditError → Type 0
IsToldBy step follows begin tree transcript told (audit_errors.Refused (refusals.NotAllowed number)) =
    (start : Tree) × IsStart start tree
    × ToldAt step follows (begin start) transcript told (refusals.NotAllowed number)
IsToldBy step follows begin tree transcript told other = told ≡ true
