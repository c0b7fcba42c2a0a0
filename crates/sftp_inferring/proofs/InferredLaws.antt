-- What an audit of streams says of a tree that was inferred, and what is written of it.
use Rattle.std.proofs.Common.{◌≡◌, ◌∙◌, refl, ℕ, Bool, true, false, List, Option, Some, None, Result, Ok, Err, subst}
use Rattle.std.specs.Prelude.{IfSome, MatchOption}
use Rattle.std.specs.Result.{IfOk}
use Rattle.sftp_tree.specs.Tree.{Tree}
use Rattle.sftp_tree.specs.Picture.{picture}
use Rattle.sftp_transcript.specs.declared.events.Event.{Event}
use Rattle.sftp_transcript.specs.Recorded.{Reading}
use Rattle.sftp_audit.specs.declared.trees.Ended.{Ended as End}
use Rattle.sftp_audit.specs.declared.errors.AuditError.{AuditError}
use Rattle.sftp_audit.specs.Audit.{Accounts, IsNew, request_count}
use Rattle.sftp_infer.specs.Texts.{bytes_of}
use Rattle.sftp_files.specs.declared.messages.Ending.{Ending}
use Rattle.sftp_files.specs.declared.messages.Ending.TheVariants as endings
use Rattle.sftp_files.specs.declared.messages.Failure.{Failure}
use Rattle.sftp_profile.specs.declared.profiles.Profile.{Profile}
use Rattle.sftp_verdicts.specs.declared.asked.InferOptions.{InferOptions}
use Rattle.sftp_verdicts.specs.Verdicts.{AccountOf, AccountsUnder, accounts_under}
use Rattle.sftp_inferring.specs.declared.inferences.Ended.{Ended}
use Rattle.sftp_inferring.specs.declared.inferences.Found.{Found}
use Rattle.sftp_inferring.specs.declared.inferences.Found.TheVariants as founds
use Rattle.sftp_inferring.specs.Inferences.{HasAudit, IsExplained, IsInferred, AreWritten, Stored, Has}

-- the tree file and the session account for a run with this end
abbrev HasRunTo : AccountOf → List ℕ → List ℕ → End → Type 0
HasRunTo accounts tree session end =
    (start : Tree) × (events : List Event) × accounts tree session start events end.tree
    × (end.requests ≡ request_count events)

module _ (accounts : AccountOf) (left : Option (List ℕ)) (tree session : List ℕ) (records : Reading) where
  pub has_run : (result : Result End AuditError)
      → IfOk result (λ ended. (bytes transcript : List ℕ) → left ≡ Some bytes → IsNew transcript records
      → (start : Tree) × (events : List Event) × accounts bytes transcript start events ended.tree
      × (ended.requests ≡ request_count events))
      → left ≡ Some tree → IsNew session records → IfOk result (HasRunTo accounts tree session)
  has_run (Ok ended) accepts is new = accepts tree session is new
  has_run (Err error) accepts is new = tt

module _ (accounts : AccountOf) (wanted : Bool) (tree session : List ℕ) (end : End) where
  pub judged : (result : Result Ended AuditError) → HasRunTo accounts tree session end
      → IfOk result (λ ended. ended.requests ≡ end.requests)
      → IfOk result (λ ended. MatchOption ended.tree (wanted ≡ false) (λ bytes. bytes.items ≡ picture end.tree))
      → IfOk result (HasAudit accounts wanted tree session)
  judged (Ok ended) run requests written = (run.0, run.1, end.tree, run.2, (requests ∙ run.3, written))
  judged (Err error) run requests written = tt

-- ---- by whichever profile

pub explained_by : (by : Option Profile) (wanted : Bool) (session : List ℕ) (found : Found)
    → (by ≡ None → IsExplained Accounts wanted session found)
    → ((it : Profile) → by ≡ Some it → IsExplained (AccountsUnder it) wanted session found)
    → IsExplained (accounts_under by) wanted session found
explained_by None wanted session found strictly under = strictly refl
explained_by (Some profile) wanted session found strictly under = under profile refl

-- ---- what is written

module _ (accounts : AccountOf) (options : InferOptions) (tree out : Stored) (session : List ℕ) where
  end_written : {A : Type 0} {V : Type 0} (items : V → List ℕ) (name : Option A) (written : Option V) (wanted : Bool)
      (end : List ℕ) → (IfSome name (λ _. wanted ≡ true))
      → MatchOption written (wanted ≡ false) (λ bytes. items bytes ≡ end)
      → IfSome name (λ _. IfSome written (λ bytes. Has out (items bytes))) → IfSome name (λ _. Has out end)
  end_written items None written wanted end asked is has = tt
  end_written items (Some name) None wanted end asked is has = absurd cc
  end_written items (Some name) (Some bytes) wanted end asked is has = subst (Has out) is has

  pub inferred : (found : Found) (ending : Ending) (wanted : Bool) → (IfSome options.out (λ _. wanted ≡ true))
      → IsExplained accounts wanted session found → (ending ≡ endings.Done → AreWritten options tree out found)
      → IsInferred accounts options tree out session ending
  inferred (founds.Inferred at_hand) ending wanted asked run written = λ is.
      let files = written is in (
        bytes_of at_hand.candidate.tree,
        run.0,
        run.1,
        run.2,
        run.3,
        files.0,
        end_written (λ bytes. bytes.items) options.out at_hand.ended.tree wanted (picture run.2) asked run.4.1 files.1,
      )
  inferred other ending wanted asked run written = λ is. absurd (written is)

  pub inferred_ok : (found : Found) (wanted : Bool) (result : Result Ending Failure)
      → (IfSome options.out (λ _. wanted ≡ true)) → IsExplained accounts wanted session found
      → IfOk result (λ ending. ending ≡ endings.Done → AreWritten options tree out found)
      → IfOk result (IsInferred accounts options tree out session)
  inferred_ok found wanted (Ok ending) asked run written = inferred found ending wanted asked run written
  inferred_ok found wanted (Err failure) asked run written = tt
