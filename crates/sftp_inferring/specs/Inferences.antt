-- What is promised of a tree that was inferred from a session, and of what is written of it.
use Rattle.std.specs.Prelude.{◌≡◌, ℕ, List, Option, Bool, true, false, Result, IfOk, IfSome, MatchOption}
use Rattle.sftp_tree.specs.Tree.{Tree}
use Rattle.sftp_tree.specs.Picture.{picture}
use Rattle.sftp_transcript.specs.declared.events.Event.{Event}
use Rattle.sftp_audit.specs.declared.errors.AuditError.{AuditError}
use Rattle.sftp_audit.specs.Audit.{request_count}
use Rattle.sftp_infer.specs.Texts.{bytes_of}
use Rattle.sftp_files.specs.declared.messages.Ending.{Ending}
use Rattle.sftp_files.specs.declared.messages.Ending.TheVariants as endings
use Rattle.sftp_inferring.specs.declared.inferences.Ended.{Ended}
use Rattle.sftp_inferring.specs.declared.inferences.Found.{Found}
use Rattle.sftp_inferring.specs.declared.inferences.Found.TheVariants as founds
use Rattle.sftp_verdicts.specs.declared.asked.InferOptions.{InferOptions}
use Rattle.sftp_verdicts.specs.Files.{Becomes}
use Rattle.sftp_verdicts.specs.Umasks.{asked_profile}
use Rattle.sftp_verdicts.specs.Verdicts.{AccountOf}
use Rattle.std.specs.Prelude.{option_map}

-- how many requests the session has, and the tree file of its end, if that is wanted
abbrev pub IsEnd : Bool → Ended → List Event → Tree → Type 0
IsEnd wanted ended events end =
    (ended.requests ≡ request_count events)
    × MatchOption ended.tree (wanted ≡ false) (λ bytes. bytes.items ≡ picture end)

-- the tree file and the session account for a run with this result
abbrev pub HasAudit : AccountOf → Bool → List ℕ → List ℕ → Ended → Type 0
HasAudit accounts wanted tree session ended =
    (start : Tree) × (events : List Event) × (end : Tree)
    × accounts tree session start events end × IsEnd wanted ended events end

-- A session that is accepted has a run from the start whose tree file this is.
abbrev pub IsJudged : AccountOf → Bool → List ℕ → List ℕ → Result Ended AuditError → Type 0
IsJudged accounts wanted tree session result = IfOk result (HasAudit accounts wanted tree session)

-- A tree that was found is the tree file of a start from which the session has a run.
abbrev pub IsExplained : AccountOf → Bool → List ℕ → Found → Type 0
IsExplained accounts wanted session (founds.Inferred inferred) =
    HasAudit accounts wanted (bytes_of inferred.candidate.tree) session inferred.ended
IsExplained accounts wanted session other = Unit {0}

-- ---- what is written

-- how a file that is written was before and is now
pub record Stored : Type 0 where
  pub old : Option (List ℕ)
  pub new : Option (List ℕ)

-- it now has these bytes
abbrev pub Has : Stored → List ℕ → Type 0
Has stored bytes = Becomes stored.old stored.new bytes

-- the tree that was found, and the tree at its end, are in the files that are named for them
abbrev pub AreWritten : InferOptions → Stored → Stored → Found → Type 0
AreWritten options tree out (founds.Inferred inferred) =
    IfSome options.tree (λ _. Has tree (bytes_of inferred.candidate.tree))
    × IfSome options.out (λ _. IfSome inferred.ended.tree (λ bytes. Has out bytes.items))
AreWritten options tree out other = ⊥

-- Where the run says that the session is accepted, it is, from the tree that is written: that is the tree with which
-- the audit accepted it. The tree at the end of the same run is written, too. Each is if a file is named for it.
abbrev pub IsInferred : AccountOf → InferOptions → Stored → Stored → List ℕ → Ending → Type 0
IsInferred accounts options tree out session ending =
    ending ≡ endings.Done
    → (bytes : List ℕ) × (start : Tree) × (events : List Event) × (end : Tree)
    × accounts bytes session start events end
    × IfSome options.tree (λ _. Has tree bytes) × IfSome options.out (λ _. Has out (picture end))

-- the options with the umask in their profile
abbrev pub with_umask : InferOptions → InferOptions
with_umask options = record options {
  profile = asked_profile options.profile (option_map (λ given. given.now) options.umask);
}
