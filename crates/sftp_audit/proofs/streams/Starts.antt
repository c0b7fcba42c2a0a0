-- What an audit says from a tree, it says of each tree file of that tree.
use Rattle.sftp_audit.proofs.Imports.{◌≡◌, inl, inr, ℕ, List, sym, subst, Tree, IsStart, one_start, StepOf, FollowsOf, Event}
use Rattle.sftp_audit.proofs.Imports.{Bool, true, Explained, Sound, Refusal, AuditError, AccountsBy, IsFirstFaultBy}
use Rattle.sftp_audit.proofs.Imports.{IsToldBy, JudgesTree, IsTreeError, IsNoJudgement, IsExcusedBy, Result, Ok, Err}
use Rattle.sftp_audit.proofs.Imports.{◌⊎◌, FaultAt, RefusedAt, RefusedAtEnd}
use Rattle.std.specs.Result.{IfErr}
use Rattle.std.specs.Prelude.{MatchResult}
use Rattle.sftp_treefile.specs.declared.errors.TreeError.{TreeError}
use Rattle.sftp_treefile.specs.declared.errors.TreeError.TheVariants as tree_errors
use Rattle.sftp_treefile.specs.Streamed.{IsExcuse, MayFail}
use Rattle.sftp_audit.specs.declared.errors.AuditError.TheVariants as audit_errors
use Rattle.sftp_audit.specs.declared.errors.Refusal.TheVariants as refusals
use Rattle.sftp_audit.specs.Audit.{HasStart, error_of_tree}
use Rattle.sftp_audit.specs.Cuts.{AccountsCutBy}
use Rattle.sftp_audit.specs.Trees.{AccountsFrom, AccountsCutFrom, IsFirstFaultFrom, IsToldFrom, IsUnjudged}
use Rattle.sftp_audit.specs.Trees.{JudgesTreeUnless, IsExcusedByBoth}
use Rattle.sftp_audit.proofs.streams.{HasNoRunFrom, HasNoCutFrom}

-- the tree file and the transcript account for no run
abbrev pub HasNoRun : {S : Type 0} → StepOf S → (Tree → S) → (S → Tree) → List ℕ → List ℕ → Type 0
HasNoRun step begin close tree transcript =
    (start : Tree) (events : List Event) (end : Tree) → AccountsBy step begin close tree transcript start events end → ⊥

-- they account for no session, not even one that was cut
abbrev pub HasNoCut : {S : Type 0} → StepOf S → (Tree → S) → (S → Tree) → List ℕ → List ℕ → Type 0
HasNoCut step begin close tree transcript =
    (start : Tree) (events : List Event) (end : Tree)
    → AccountsCutBy step begin close tree transcript start events end → ⊥

module _ {S : Type 0} (step : StepOf S) (begin : Tree → S) (close : S → Tree) (tree transcript : List ℕ) (start : Tree)
  where
    -- ---- runs

    pub by_from : (events : List Event) (end : Tree) → IsStart start tree
        → AccountsFrom step close (begin start) transcript events end
        → AccountsBy step begin close tree transcript start events end
    by_from events end is told = record {
      start_is = is;
      events_are = told.events_are;
      last = told.last;
      explained = told.explained;
      end_is = told.end_is;
    }

    pub from_by : (events : List Event) (end : Tree)
        → AccountsBy step begin close tree transcript start events end
        → AccountsFrom step close (begin start) transcript events end
    from_by events end told = record {
      events_are = told.events_are;
      last = told.last;
      explained = told.explained;
      end_is = told.end_is;
    }

    pub cut_by_from : (events : List Event) (end : Tree) → IsStart start tree
        → AccountsCutFrom step close (begin start) transcript events end
        → AccountsCutBy step begin close tree transcript start events end
    cut_by_from events end is told = record {
      start_is = is;
      events_are = told.events_are;
      last = told.last;
      sound = told.sound;
      end_is = told.end_is;
    }

    pub cut_from_by : (events : List Event) (end : Tree)
        → AccountsCutBy step begin close tree transcript start events end
        → AccountsCutFrom step close (begin start) transcript events end
    cut_from_by events end told = record {
      events_are = told.events_are;
      last = told.last;
      sound = told.sound;
      end_is = told.end_is;
    }

    -- a tree file is that of one tree
    pub none_by : IsStart start tree → HasNoRunFrom step close (begin start) transcript
        → HasNoRun step begin close tree transcript
    none_by is none other events end told =
        let same : start ≡ other = one_start start other tree is told.start_is in
        none events end (record {
          events_are = told.events_are;
          last = told.last;
          explained = subst (λ (t : Tree). Explained step (begin t) events told.last) (sym same) told.explained;
          end_is = told.end_is;
        })

    pub none_cut_by : IsStart start tree → HasNoCutFrom step close (begin start) transcript
        → HasNoCut step begin close tree transcript
    none_cut_by is none other events end told =
        let same : start ≡ other = one_start start other tree is told.start_is in
        none events end (record {
          events_are = told.events_are;
          last = told.last;
          sound = subst (λ (t : Tree). Sound step (begin t) events told.last) (sym same) told.sound;
          end_is = told.end_is;
        })

    -- ---- faults

    pub first_by : (error : AuditError) → IsStart start tree → IsFirstFaultFrom step (begin start) transcript error
        → IsFirstFaultBy step begin tree transcript error
    first_by (audit_errors.Tree error) is first = absurd first
    first_by audit_errors.NoMemory is first = tt
    first_by (audit_errors.Transcript error) is first = (start, is, first)
    first_by (audit_errors.Refused refusal) is first = (start, is, first)

    pub first_from : (error : AuditError) → IsStart start tree → IsFirstFaultBy step begin tree transcript error
        → IsFirstFaultFrom step (begin start) transcript error
    first_from (audit_errors.Tree error) is first = absurd (first (start, is))
    first_from audit_errors.NoMemory is first = tt
    first_from (audit_errors.Transcript error) is first =
        subst (λ (t : Tree). FaultAt step (begin t) transcript error) (one_start first.0 start tree first.1 is) first.2
    first_from (audit_errors.Refused refusal) is first =
        subst (λ (t : Tree). RefusedAt step (begin t) transcript refusal ⊎ RefusedAtEnd step (begin t) transcript refusal)
        (one_start first.0 start tree first.1 is) first.2

-- ---- what is told

module _ {S : Type 0} (step : StepOf S) (follows : FollowsOf S) (begin : Tree → S) (tree transcript : List ℕ)
    (start : Tree) (told : Bool) (is : IsStart start tree)
  where
    told-kind : (refusal : Refusal)
        → IsToldFrom step follows (begin start) transcript told (audit_errors.Refused refusal)
        → IsToldBy step follows begin tree transcript told (audit_errors.Refused refusal)
    told-kind (refusals.NotAllowed number) at = (start, is, at)
    told-kind other at = at

    pub told_by : (error : AuditError) → IsToldFrom step follows (begin start) transcript told error
        → IsToldBy step follows begin tree transcript told error
    told_by (audit_errors.Refused refusal) at = told-kind refusal at
    told_by other at = at

-- ---- the tree

pub judged_by : (start : Tree) (tree : List ℕ) (error : AuditError) → IsStart start tree → (IsTreeError error → ⊥)
    → JudgesTree tree error
judged_by start tree (audit_errors.Tree error) is treeless = absurd (treeless tt)
judged_by start tree audit_errors.NoMemory is treeless = tt
judged_by start tree other is treeless = (start, is)

-- ---- where the tree file is read from a source

pub unjudged_too : (error : AuditError) → IsNoJudgement error → IsUnjudged error
unjudged_too (audit_errors.Tree (tree_errors.Io entry)) none = tt
unjudged_too other none = none

-- the tree was read
pub judged_read : {T : Type 0} (result : Result T AuditError) (start : Tree) (bytes : List ℕ) → IsStart start bytes
    → IfErr result (λ e. IsTreeError e → ⊥) → MatchResult result (λ _. HasStart bytes) (JudgesTreeUnless bytes)
judged_read (Ok value) start bytes is treeless = (start, is)
judged_read (Err (audit_errors.Tree error)) start bytes is treeless = absurd (treeless tt)
judged_read (Err audit_errors.NoMemory) start bytes is treeless = tt
judged_read (Err other) start bytes is treeless = (start, is)

pub excused_read : {T : Type 0} (tree_may_fail may_fail : Bool) (result : Result T AuditError)
    → IfErr result (λ e. IsTreeError e → ⊥) → IfErr result (IsExcusedBy may_fail)
    → IfErr result (IsExcusedByBoth tree_may_fail may_fail)
excused_read tree_may_fail may_fail (Ok value) treeless excused = tt
excused_read tree_may_fail may_fail (Err (audit_errors.Tree error)) treeless excused = absurd (treeless tt)
excused_read tree_may_fail may_fail (Err other) treeless excused = excused

-- it was not
pub unjudged_unread : (error : TreeError) → IsExcuse error → IsUnjudged (error_of_tree error)
unjudged_unread tree_errors.NoMemory excuse = tt
unjudged_unread (tree_errors.Io entry) excuse = tt
unjudged_unread other excuse = absurd excuse

pub first_unread : {S : Type 0} (step : StepOf S) (begin : Tree → S) (bytes transcript : List ℕ) (error : TreeError)
    → (IsUnjudged (error_of_tree error) → ⊥) → ((t : Tree) → IsStart t bytes → IsExcuse error)
    → IsFirstFaultBy step begin bytes transcript (error_of_tree error)
first_unread step begin bytes transcript tree_errors.NoMemory judged only = tt
first_unread step begin bytes transcript (tree_errors.Io entry) judged only = absurd (judged tt)
first_unread step begin bytes transcript other judged only = λ start. only start.0 start.1

pub told_unread : {S : Type 0} (step : StepOf S) (follows : FollowsOf S) (begin : Tree → S)
    (bytes transcript : List ℕ) (told : Bool) (error : TreeError) → told ≡ true
    → IsToldBy step follows begin bytes transcript told (error_of_tree error)
told_unread step follows begin bytes transcript told tree_errors.NoMemory same = same
told_unread step follows begin bytes transcript told other same = same

pub judged_unread : (bytes : List ℕ) (error : TreeError) → ((t : Tree) → IsStart t bytes → IsExcuse error)
    → JudgesTreeUnless bytes (error_of_tree error)
judged_unread bytes tree_errors.NoMemory only = tt
judged_unread bytes (tree_errors.Io entry) only = tt
judged_unread bytes other only = λ start. only start.0 start.1

pub excused_unread : (tree_may_fail may_fail : Bool) (error : TreeError) → MayFail tree_may_fail error
    → IsExcusedByBoth tree_may_fail may_fail (error_of_tree error)
excused_unread tree_may_fail may_fail tree_errors.NoMemory may = tt
excused_unread tree_may_fail may_fail (tree_errors.Io entry) may = may
excused_unread tree_may_fail may_fail other may = tt
