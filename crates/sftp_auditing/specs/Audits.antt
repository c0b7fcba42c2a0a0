-- What an audit of a tree file and of a transcript says, where the bytes of the transcript are known.
use Rattle.std.specs.Prelude.{◌≡◌, ℕ, List, Result, Ok, Err, MatchResult, Bool, true, false, Option, Some, None}
use Rattle.std.specs.Prelude.{⊤}
use Rattle.std.specs.Prelude.{option_map}
use Rattle.sftp_audit.specs.declared.errors.Refusal.{Refusal}
use Rattle.sftp_audit.specs.declared.errors.Refusal.TheVariants as refusals
use Rattle.sftp_audit.specs.declared.errors.AuditError.{AuditError}
use Rattle.sftp_audit.specs.declared.errors.AuditError.TheVariants as audit_errors
use Rattle.sftp_files.specs.declared.messages.Ending.{Ending}
use Rattle.sftp_files.specs.declared.messages.Failure.{Failure}
use Rattle.sftp_files.specs.declared.messages.Failure.TheVariants as failures
use Rattle.sftp_files.specs.Failures.{tree_failure, IsTranscriptFailure, IsUnwritten}
use Rattle.sftp_tree.specs.Tree.{Tree}
use Rattle.sftp_handles.specs.State.{started, closed_tree}
use Rattle.sftp_handles.specs.Allowed.{Allowed}
use Rattle.sftp_profile.specs.declared.profiles.Profile.{Profile}
use Rattle.sftp_profile.specs.State.{begun}
use Rattle.sftp_profile.specs.Permitted.{Permitted, follows_in}
use Rattle.sftp_transcript.specs.declared.events.Event.{Event}
use Rattle.sftp_transcript.specs.Explained.{StepOf}
use Rattle.sftp_audit.specs.declared.cuts.EndedCut.{EndedCut}
use Rattle.sftp_audit.specs.declared.trees.Ended.{Ended}
use Rattle.sftp_audit.specs.Exchanges.{recorded_exchanges}
use Rattle.sftp_audit.specs.Audit.{AccountsBy, IsFirstFaultBy, IsToldBy, IsNoJudgement, request_count}
use Rattle.sftp_audit.specs.Cuts.{AccountsCutBy, unanswered_count, unsettled_count}
use Rattle.sftp_files.specs.declared.messages.Ending.TheVariants as endings
use Rattle.sftp_tree.specs.Picture.{picture}
use Rattle.sftp_verdicts.specs.Files.{Becomes}
use Rattle.sftp_verdicts.specs.Verdicts.{AccountOf}
use Rattle.sftp_verdicts.specs.declared.asked.AuditOptions.{AuditOptions}
use Rattle.sftp_verdicts.specs.Umasks.{asked_profile}

-- ==== What the error of an audit is to a run.

-- the error of an audit, whose transcript is in the file of this name: a refusal of the session, or a failure
abbrev pub IsOutcome : List ℕ → AuditError → Result Refusal Failure → Type 0
IsOutcome name (audit_errors.Refused refusals.NoMemory) result = result ≡ Err failures.OutOfMemory
IsOutcome name (audit_errors.Refused refusal) result = result ≡ Ok refusal
IsOutcome name (audit_errors.Tree error) result = result ≡ Err (tree_failure error)
IsOutcome name (audit_errors.Transcript error) result = MatchResult result (λ _. ⊥) (IsTranscriptFailure name error)
IsOutcome name audit_errors.NoMemory result = result ≡ Err failures.OutOfMemory

-- which error of an audit is the first fault of a tree file and a transcript
abbrev pub FaultOf : Type 1
FaultOf = List ℕ → List ℕ → AuditError → Type 0

-- whether the judge follows the session of a tree file and a transcript up to where it is refused with this error
abbrev pub ToldOf : Type 1
ToldOf = List ℕ → List ℕ → Bool → AuditError → Type 0

-- The tree after the requests before the oldest unanswered one, the number of all requests, of those from that one on,
-- which are not judged, and of those that are unanswered. In a complete session none is unanswered, so each is judged.
abbrev pub HasEnd : EndedCut → List Event → Tree → Type 0
HasEnd ended events end =
    (ended.tree ≡ end) × (ended.requests ≡ request_count events)
    × (ended.unsettled ≡ unsettled_count events)
    × (ended.unanswered ≡ unanswered_count (recorded_exchanges events))

-- the result of a complete session as that of one that may have been cut
abbrev pub uncut : Result Ended AuditError → Result EndedCut AuditError
uncut (Ok ended) = Ok (record { tree = ended.tree; requests = ended.requests; unsettled = 0; unanswered = 0 })
uncut (Err error) = Err error

-- they account for none
abbrev pub HasNoRun : AccountOf → List ℕ → List ℕ → Type 0
HasNoRun accounts tree transcript =
    (start : Tree) (events : List Event) (end : Tree) → accounts tree transcript start events end → ⊥

-- A session is accepted where they account for a run, with its result; it is refused where they account for none, with
-- the first fault, and whether the judge follows the session up to there. An error that is no judgement says nothing.
abbrev pub IsAudit : AccountOf → FaultOf → ToldOf → List ℕ → Option (List ℕ) → Result EndedCut AuditError → Bool
    → Type 0
IsAudit accounts faults tells tree known (Ok ended) follows =
    (transcript : List ℕ) → known ≡ Some transcript
    → (start : Tree) × (events : List Event) × (end : Tree)
    × accounts tree transcript start events end × HasEnd ended events end
IsAudit accounts faults tells tree known (Err error) follows =
    (IsNoJudgement error → ⊥) → (transcript : List ℕ) → known ≡ Some transcript
    → HasNoRun accounts tree transcript × faults tree transcript error × tells tree transcript follows error

-- what is to hold of the tree at the end
abbrev pub EndOf : Type 1
EndOf = Tree → Type 0

-- whatever holds of the tree at the end
abbrev pub IsAnyEnd : EndOf
IsAnyEnd end = ⊤

-- the tree file of the end is stored, where this is what was there before and is there now
abbrev pub IsStoredEnd : Option (List ℕ) → Option (List ℕ) → EndOf
IsStoredEnd old new end = Becomes old new (picture end)

-- ---- what the program says of a tree file and a transcript

-- The session is accepted where they account for a run, with an end of which this holds, and it is refused where they
-- account for none. A file is said to be malformed where that is the first fault. Where the run fails otherwise this
-- says nothing.
abbrev pub IsSaid : AccountOf → FaultOf → EndOf → List ℕ → Option (List ℕ) → Result Ending Failure → Type 0
IsSaid accounts faults OfEnd tree known (Ok endings.Done) =
    (transcript : List ℕ) → known ≡ Some transcript
    → (start : Tree) × (events : List Event) × (end : Tree) × accounts tree transcript start events end × OfEnd end
IsSaid accounts faults OfEnd tree known (Ok endings.Refused) =
    (transcript : List ℕ) → known ≡ Some transcript → HasNoRun accounts tree transcript
IsSaid accounts faults OfEnd tree known (Ok other) = ⊥
IsSaid accounts faults OfEnd tree known (Err (failures.Tree error)) =
    (transcript : List ℕ) → known ≡ Some transcript → faults tree transcript (audit_errors.Tree error)
IsSaid accounts faults OfEnd tree known (Err (failures.Transcript error)) =
    (transcript : List ℕ) → known ≡ Some transcript → faults tree transcript (audit_errors.Transcript error)
IsSaid accounts faults OfEnd tree known (Err failure) = ⊤

-- The session is refused where the error is a judgement.
abbrev pub IsReportOfError : AuditError → Ending → Type 0
IsReportOfError error ending = (ending ≡ endings.Refused) × (IsNoJudgement error → ⊥)

-- A file is said to be malformed where the error is that, and a judgement.
abbrev pub IsFailureOf : AuditError → Failure → Type 0
IsFailureOf error (failures.Tree fault) = (error ≡ audit_errors.Tree fault) × (IsNoJudgement error → ⊥)
IsFailureOf error (failures.Transcript fault) = (error ≡ audit_errors.Transcript fault) × (IsNoJudgement error → ⊥)
IsFailureOf error other = ⊤

-- The session is accepted or refused as by the audit, and its end is as it is to be.
abbrev pub IsReportOf : EndOf → Result EndedCut AuditError → Result Ending Failure → Type 0
IsReportOf OfEnd (Ok ended) result =
    MatchResult result (λ ending. (ending ≡ endings.Done) × OfEnd ended.tree) IsUnwritten
IsReportOf OfEnd (Err error) result = MatchResult result (IsReportOfError error) (IsFailureOf error)

-- ---- what the options ask for

-- complete sessions by this judge; if so asked, those that may have been cut too
abbrev pub accounts_by : {S : Type 0} → Bool → StepOf S → (Tree → S) → (S → Tree) → AccountOf
accounts_by false step begin close = AccountsBy step begin close
accounts_by true step begin close = AccountsCutBy step begin close

-- without a profile strictly; with `--cut` also sessions that were cut
abbrev pub accounts_asked : Option Profile → Bool → AccountOf
accounts_asked None cuts = accounts_by cuts Allowed started closed_tree
accounts_asked (Some profile) cuts = accounts_by cuts Permitted (begun profile) (λ s. closed_tree s.session)

abbrev pub fault_asked : Option Profile → FaultOf
fault_asked None = IsFirstFaultBy Allowed started
fault_asked (Some profile) = IsFirstFaultBy Permitted (begun profile)

-- strictly each session is followed
abbrev pub told_asked : Option Profile → ToldOf
told_asked None = IsToldBy Allowed (λ s request reply. true) started
told_asked (Some profile) =
    IsToldBy Permitted (λ s request reply. follows_in s request.ask reply.answer) (begun profile)

abbrev pub IsResultAsked : Option Profile → Bool → List ℕ → Option (List ℕ) → Result EndedCut AuditError → Bool → Type 0
IsResultAsked profile cuts = IsAudit (accounts_asked profile cuts) (fault_asked profile) (told_asked profile)

abbrev pub IsSaidAsked : Option Profile → Bool → EndOf → List ℕ → Option (List ℕ) → Result Ending Failure → Type 0
IsSaidAsked profile cuts = IsSaid (accounts_asked profile cuts) (fault_asked profile)

-- the options with the umask in their profile
abbrev pub with_umask : AuditOptions → AuditOptions
with_umask files = record files {
  profile = asked_profile files.profile (option_map (λ given. given.now) files.umask);
}
