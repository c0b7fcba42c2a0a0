-- From what an audit of a stream says to what the program says.
use Rattle.std.proofs.Common.{◌≡◌, ℕ, Bool, true, false, List, Option, Some, None, Result, Ok, Err, refl, sym, subst}
use Rattle.std.specs.Result.{IfOk, IfErr}
use Rattle.std.specs.Prelude.{MatchResult}
use Rattle.sftp_tree.specs.Tree.{Tree}
use Rattle.sftp_tree.specs.Picture.{IsStart}
use Rattle.sftp_treefile.specs.declared.errors.TreeError.{TreeError}
use Rattle.sftp_treefile.specs.declared.errors.TreeError.TheVariants as tree_errors
use Rattle.sftp_profile.specs.declared.profiles.Profile.{Profile}
use Rattle.sftp_transcript.specs.declared.events.Event.{Event}
use Rattle.sftp_transcript.specs.declared.errors.TranscriptError.{TranscriptError}
use Rattle.sftp_transcript.specs.declared.errors.TranscriptError.TheVariants as transcript_errors
use Rattle.sftp_transcript.specs.Recorded.{Reading}
use Rattle.sftp_transcript.specs.Explained.{StepOf}
use Rattle.sftp_audit.specs.declared.cuts.EndedCut.{EndedCut}
use Rattle.sftp_audit.specs.declared.trees.Ended.{Ended}
use Rattle.sftp_audit.specs.declared.errors.AuditError.{AuditError}
use Rattle.sftp_audit.specs.declared.errors.AuditError.TheVariants as audit_errors
use Rattle.sftp_audit.specs.declared.errors.Refusal.{Refusal}
use Rattle.sftp_audit.specs.declared.errors.Refusal.TheVariants as refusals
use Rattle.sftp_audit.specs.Audit.{HasStart, IsFirstFaultBy, IsNoJudgement, IsNew, IsToldBy, request_count}
use Rattle.sftp_audit.specs.Auditor.{FollowsOf}
use Rattle.sftp_audit.specs.Cuts.{unanswered_count, unsettled_count}
use Rattle.sftp_audit.specs.Trees.{AccountsFrom, AccountsCutFrom, IsFirstFaultFrom, IsToldFrom}
use Rattle.sftp_audit.proofs.auditing.Refusals.{answered-of_complete, judged-if_answered}
use Rattle.sftp_audit.proofs.streams.{HasNoRunFrom, HasNoCutFrom}
use Rattle.sftp_audit.proofs.streams.Starts.{by_from, cut_by_from, none_by, none_cut_by, first_by, told_by}
use Rattle.sftp_audit.specs.Exchanges.{recorded_exchanges}
use Rattle.sftp_files.specs.declared.messages.Ending.{Ending}
use Rattle.sftp_files.specs.declared.messages.Ending.TheVariants as endings
use Rattle.sftp_files.specs.declared.messages.Failure.{Failure}
use Rattle.sftp_files.specs.declared.messages.Failure.TheVariants as failures
use Rattle.sftp_files.specs.Failures.{failure_status, tree_failure, IsTranscriptFailure, IsUnread, IsUnwritten}
use Rattle.sftp_verdicts.specs.Verdicts.{AccountOf}
use Rattle.sftp_auditing.specs.Audits.{FaultOf, ToldOf, EndOf, IsAnyEnd, IsAudit, IsSaid, IsSaidAsked}
use Rattle.sftp_auditing.specs.Audits.{IsReportOf, IsReportOfError, IsFailureOf}
use Rattle.sftp_auditing.specs.Audits.{IsOutcome, accounts_by, fault_asked, uncut}
use Rattle.sftp_auditing.specs.Starts.{IsStartOf}

-- ---- an audit of it, from the tree of a tree file

module _ {S : Type 0} (step : StepOf S) (follows : FollowsOf S) (begin : Tree → S) (close : S → Tree) (start : Tree)
    (tree : List ℕ) (is : IsStart start tree) (known : Option (List ℕ)) (records : Reading)
    (new : (bytes : List ℕ) → known ≡ Some bytes → IsNew bytes records) (follows_now : Bool)
  where
    -- of a session that has to be complete: none of its requests is unanswered
    pub audited : (cuts : Bool) → cuts ≡ false → (result : Result Ended AuditError)
        → IfOk result (λ ended. (bytes : List ℕ) → IsNew bytes records
        → (events : List Event) × AccountsFrom step close (begin start) bytes events ended.tree
        × (ended.requests ≡ request_count events))
        → IfErr result (λ e. (IsNoJudgement e → ⊥) → (bytes : List ℕ) → IsNew bytes records
        → HasNoRunFrom step close (begin start) bytes)
        → IfErr result (λ e. (IsNoJudgement e → ⊥) → (bytes : List ℕ) → IsNew bytes records
        → IsFirstFaultFrom step (begin start) bytes e)
        → IfErr result (λ e. (IsNoJudgement e → ⊥) → (bytes : List ℕ) → IsNew bytes records
        → IsToldFrom step follows (begin start) bytes follows_now e)
        → IsAudit (accounts_by cuts step begin close) (IsFirstFaultBy step begin) (IsToldBy step follows begin)
        tree known (uncut result) follows_now
    audited true other result accepts refuses first told = absurd cc
    audited false complete (Ok ended) accepts refuses first told = λ bytes known_are.
        let run = accepts bytes (new bytes known_are) in
        let account = by_from step begin close tree bytes start run.0 ended.tree is run.1 in
        let none = answered-of_complete step begin close tree bytes start run.0 ended.tree account in (
          start,
          run.0,
          ended.tree,
          account,
          (refl, run.2, sym (judged-if_answered run.0 none), sym none),
        )
    audited false complete (Err e) accepts refuses first told = λ judged bytes known_are. (
      none_by step begin close tree bytes start is (refuses judged bytes (new bytes known_are)),
      first_by step begin close tree bytes start e is (first judged bytes (new bytes known_are)),
      told_by step follows begin tree bytes start follows_now is e (told judged bytes (new bytes known_are)),
    )

    -- of one that may have been cut
    pub audited_cut : (cuts : Bool) → cuts ≡ true → (result : Result EndedCut AuditError)
        → IfOk result (λ ended. (bytes : List ℕ) → IsNew bytes records
        → (events : List Event) × AccountsCutFrom step close (begin start) bytes events ended.tree
        × (ended.requests ≡ request_count events) × (ended.unsettled ≡ unsettled_count events)
        × (ended.unanswered ≡ unanswered_count (recorded_exchanges events)))
        → IfErr result (λ e. (IsNoJudgement e → ⊥) → (bytes : List ℕ) → IsNew bytes records
        → HasNoCutFrom step close (begin start) bytes)
        → IfErr result (λ e. (IsNoJudgement e → ⊥) → (bytes : List ℕ) → IsNew bytes records
        → IsFirstFaultFrom step (begin start) bytes e)
        → IfErr result (λ e. (IsNoJudgement e → ⊥) → (bytes : List ℕ) → IsNew bytes records
        → IsToldFrom step follows (begin start) bytes follows_now e)
        → IsAudit (accounts_by cuts step begin close) (IsFirstFaultBy step begin) (IsToldBy step follows begin)
        tree known result follows_now
    audited_cut false other result accepts refuses first told = absurd cc
    audited_cut true cut (Ok ended) accepts refuses first told = λ bytes known_are.
        let run = accepts bytes (new bytes known_are) in (
          start,
          run.0,
          ended.tree,
          cut_by_from step begin close tree bytes start run.0 ended.tree is run.1,
          (refl, run.2, run.3, run.4),
        )
    audited_cut true cut (Err e) accepts refuses first told = λ judged bytes known_are. (
      none_cut_by step begin close tree bytes start is (refuses judged bytes (new bytes known_are)),
      first_by step begin close tree bytes start e is (first judged bytes (new bytes known_are)),
      told_by step follows begin tree bytes start follows_now is e (told judged bytes (new bytes known_are)),
    )

-- ---- the outcome of the program

module _ (accounts : AccountOf) (faults : FaultOf) (tells : ToldOf) (OfEnd : EndOf) (tree : List ℕ)
    (known : Option (List ℕ)) (follows : Bool)
  where
    -- a run that ends for another reason says nothing
    pub unwritten_said : (failure : Failure) → IsUnwritten failure
        → IsSaid accounts faults OfEnd tree known (Err failure)
    unwritten_said (failures.Tree fault) is = absurd is
    unwritten_said (failures.Transcript fault) is = absurd is
    unwritten_said other is = tt

    pub unread_said : (failure : Failure) → failure_status failure ≡ 3
        → IsSaid accounts faults OfEnd tree known (Err failure)
    unread_said (failures.Tree fault) is = absurd cc
    unread_said (failures.Transcript fault) is = absurd cc
    unread_said other is = tt

    pub unopened_said : (failure : Failure) → IsUnread failure → IsSaid accounts faults OfEnd tree known (Err failure)
    unopened_said (failures.Tree fault) is = absurd is
    unopened_said (failures.Transcript fault) is = absurd is
    unopened_said other is = tt

    failed_said : (error : AuditError) (failure : Failure) → IsFailureOf error failure
        → IsAudit accounts faults tells tree known (Err error) follows
        → IsSaid accounts faults OfEnd tree known (Err failure)
    failed_said error (failures.Tree fault) is audit = λ bytes read.
        subst (λ (e : AuditError). faults tree bytes e) is.0 (audit is.1 bytes read).1
    failed_said error (failures.Transcript fault) is audit = λ bytes read.
        subst (λ (e : AuditError). faults tree bytes e) is.0 (audit is.1 bytes read).1
    failed_said error other is audit = tt

    accepted_said : (ended : EndedCut) (ending : Ending) → ending ≡ endings.Done → OfEnd ended.tree
        → IsAudit accounts faults tells tree known (Ok ended) follows
        → IsSaid accounts faults OfEnd tree known (Ok ending)
    accepted_said ended endings.Done is of_end audit = λ bytes read.
        let told = audit bytes read in (told.0, told.1, told.2, told.3, subst OfEnd told.4.0 of_end)
    accepted_said ended other is of_end audit = absurd cc

    refused_said : (error : AuditError) (ending : Ending) → ending ≡ endings.Refused → (IsNoJudgement error → ⊥)
        → IsAudit accounts faults tells tree known (Err error) follows
        → IsSaid accounts faults OfEnd tree known (Ok ending)
    refused_said error endings.Refused is judged audit = λ bytes read. (audit judged bytes read).0
    refused_said error other is judged audit = absurd cc

    pub reported : (judged : Result EndedCut AuditError) (result : Result Ending Failure)
        → IsReportOf OfEnd judged result → IsAudit accounts faults tells tree known judged follows
        → IsSaid accounts faults OfEnd tree known result
    reported (Ok ended) (Ok ending) says audit = accepted_said ended ending says.0 says.1 audit
    reported (Ok ended) (Err failure) says audit = unwritten_said failure says
    reported (Err error) (Ok ending) says audit = refused_said error ending says.0 says.1 audit
    reported (Err error) (Err failure) says audit = failed_said error failure says audit

-- of a stream that has these bytes where they are known of its file
pub opened_said : (accounts : AccountOf) (faults : FaultOf) (OfEnd : EndOf) (tree : List ℕ)
    (known of_file : Option (List ℕ)) (result : Result Ending Failure)
    → ((bytes : List ℕ) → of_file ≡ Some bytes → known ≡ Some bytes)
    → IsSaid accounts faults OfEnd tree known result → IsSaid accounts faults OfEnd tree of_file result
opened_said accounts faults OfEnd tree known of_file (Ok endings.Done) same said = λ bytes read.
    said bytes (same bytes read)
opened_said accounts faults OfEnd tree known of_file (Ok endings.Refused) same said = λ bytes read.
    said bytes (same bytes read)
opened_said accounts faults OfEnd tree known of_file (Ok other) same said = said
opened_said accounts faults OfEnd tree known of_file (Err (failures.Tree fault)) same said = λ bytes read.
    said bytes (same bytes read)
opened_said accounts faults OfEnd tree known of_file (Err (failures.Transcript fault)) same said = λ bytes read.
    said bytes (same bytes read)
opened_said accounts faults OfEnd tree known of_file (Err other) same said = tt

-- what is said of a session whose tree at the end is as it is to be, where that may be any tree
pub any_end_said : (accounts : AccountOf) (faults : FaultOf) (OfEnd : EndOf) (tree : List ℕ)
    (known : Option (List ℕ)) (result : Result Ending Failure)
    → IsSaid accounts faults OfEnd tree known result → IsSaid accounts faults IsAnyEnd tree known result
any_end_said accounts faults OfEnd tree known (Ok endings.Done) said = λ bytes read.
    let told = said bytes read in (told.0, told.1, told.2, told.3, tt)
any_end_said accounts faults OfEnd tree known (Ok endings.Refused) said = λ bytes read. said bytes read
any_end_said accounts faults OfEnd tree known (Ok other) said = said
any_end_said accounts faults OfEnd tree known (Err (failures.Tree fault)) said = λ bytes read. said bytes read
any_end_said accounts faults OfEnd tree known (Err (failures.Transcript fault)) said = λ bytes read. said bytes read
any_end_said accounts faults OfEnd tree known (Err other) said = tt

-- ---- the failure that an error is

transcript_failure : (name : List ℕ) (error : TranscriptError) (failure : Failure)
    → IsTranscriptFailure name error failure → IsFailureOf (audit_errors.Transcript error) failure
transcript_failure name transcript_errors.NoMemory (failures.Tree fault) is = absurd cc
transcript_failure name transcript_errors.NoMemory (failures.Transcript fault) is = absurd cc
transcript_failure name transcript_errors.NoMemory other is = tt
transcript_failure name (transcript_errors.Io number) (failures.Tree fault) is = absurd is
transcript_failure name (transcript_errors.Io number) (failures.Transcript fault) is = absurd is
transcript_failure name (transcript_errors.Io number) other is = tt
transcript_failure name error (failures.Tree fault) is = absurd cc
transcript_failure name error (failures.Transcript fault) is = (cc, λ none. none)
transcript_failure name error other is = tt

tree_failure_is : (error : TreeError) (failure : Failure) → failure ≡ tree_failure error
    → IsFailureOf (audit_errors.Tree error) failure
tree_failure_is tree_errors.NoMemory (failures.Tree fault) is = absurd cc
tree_failure_is error (failures.Tree fault) is = (cc, λ none. none)
tree_failure_is tree_errors.NoMemory (failures.Transcript fault) is = absurd cc
tree_failure_is error (failures.Transcript fault) is = absurd cc
tree_failure_is error other is = tt

memory_failure : (error : AuditError) (failure : Failure) → failure ≡ failures.OutOfMemory → IsFailureOf error failure
memory_failure error (failures.Tree fault) is = absurd cc
memory_failure error (failures.Transcript fault) is = absurd cc
memory_failure error other is = tt

same_failure : (a b : Failure) → ◌≡◌ {A = Result Refusal Failure} (Err a) (Err b) → a ≡ b
same_failure a b is = cc

pub failure_of : (name : List ℕ) (error : AuditError) (failure : Failure) → IsOutcome name error (Err failure)
    → IsFailureOf error failure
failure_of name (audit_errors.Refused refusals.NoMemory) failure is = memory_failure _ failure (same_failure _ _ is)
failure_of name (audit_errors.Refused refusal) failure is = absurd cc
failure_of name (audit_errors.Tree error) failure is = tree_failure_is error failure (same_failure _ _ is)
failure_of name (audit_errors.Transcript error) failure is = transcript_failure name error failure is
failure_of name audit_errors.NoMemory failure is = memory_failure _ failure (same_failure _ _ is)

pub unwritten_failure : (error : AuditError) (failure : Failure) → IsUnwritten failure → IsFailureOf error failure
unwritten_failure error (failures.Tree fault) is = absurd is
unwritten_failure error (failures.Transcript fault) is = absurd is
unwritten_failure error other is = tt

-- a session is refused where its audit refuses it, which is a judgement
judged_outcome : (name : List ℕ) (error : AuditError) (refusal : Refusal) → IsOutcome name error (Ok refusal)
    → IsNoJudgement error → ⊥
judged_outcome name (audit_errors.Refused refused) refusal is = λ none. none
judged_outcome name (audit_errors.Tree fault) refusal is = λ none. none
judged_outcome name (audit_errors.Transcript fault) refusal is = absurd is
judged_outcome name audit_errors.NoMemory refusal is = absurd cc

pub reported_refusal : (name : List ℕ) (error : AuditError) (refusal : Refusal) (result : Result Ending Failure)
    → IsOutcome name error (Ok refusal) → IfOk result (λ ending. ending ≡ endings.Refused) → IfErr result IsUnwritten
    → MatchResult result (IsReportOfError error) (IsFailureOf error)
reported_refusal name error refusal (Ok ending) outcome is unwritten = (is, judged_outcome name error refusal outcome)
reported_refusal name error refusal (Err failure) outcome is unwritten = unwritten_failure error failure unwritten

-- ---- a tree file with a fault

malformed : (profile : Option Profile) (bytes transcript : List ℕ) (error : TreeError) → (HasStart bytes → ⊥)
    → fault_asked profile bytes transcript (audit_errors.Tree error)
malformed None bytes transcript error none = none
malformed (Some profile) bytes transcript error none = none

pub start_said : (profile : Option Profile) (cuts : Bool) (OfEnd : EndOf) (bytes : List ℕ) (known : Option (List ℕ))
    (error : TreeError) → IsStartOf bytes (Err error)
    → IsSaidAsked profile cuts OfEnd bytes known (Err (tree_failure error))
start_said profile cuts OfEnd bytes known tree_errors.NoMemory is = tt
start_said profile cuts OfEnd bytes known error is = λ transcript read. malformed profile bytes transcript error is
