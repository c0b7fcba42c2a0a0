-- What an audit of a set of sessions says, where the bytes of its files are known. This profile's own.
use Rattle.std.specs.Prelude.{◌≡◌, ℕ, List, [], ◌∷◌, map, ⊤, Result, Ok, Err, MatchResult, Option, Some, None}
use Rattle.sftp_files.specs.declared.messages.Ending.{Ending}
use Rattle.sftp_files.specs.declared.messages.Ending.TheVariants as endings
use Rattle.sftp_files.specs.declared.messages.Failure.{Failure}
use Rattle.sftp_files.specs.declared.messages.Failure.TheVariants as failures
use Rattle.sftp_files.specs.Failures.{IsUnwritten}
use Rattle.sftp_tree.specs.Tree.{Tree}
use Rattle.sftp_tree.specs.Picture.{picture}
use Rattle.sftp_handles.specs.State.{started, closed_tree}
use Rattle.sftp_handles.specs.Allowed.{Allowed}
use Rattle.sftp_profile.specs.declared.profiles.Profile.{Profile}
use Rattle.sftp_profile.specs.State.{begun}
use Rattle.sftp_profile.specs.Permitted.{Permitted}
use Rattle.sftp_transcript.specs.Explained.{StepOf}
use Rattle.sftp_verdicts.specs.Files.{Becomes}
use Rattle.sftp_together.specs.Sets.{TimedEvent}
use Rattle.sftp_orders.specs.declared.errors.OrderError.TheVariants as order_errors
use Rattle.sftp_gathering.specs.declared.clock.SetClock.{SetClock}
use Rattle.sftp_gathering.specs.declared.errors.PlacesError.{PlacesError}
use Rattle.sftp_gathering.specs.declared.errors.PlacesError.TheVariants.{Order}
use Rattle.sftp_gathering.specs.Files.{SessionFiles, SetFiles, AreSessionsOf}
use Rattle.sftp_gathering.specs.Files.{IsSetExplained, IsSetExplainedBy, IsExplainedByOrder}
use Rattle.sftp_overlapping.specs.declared.members.Member.{Member}
use Rattle.sftp_overlapping.specs.declared.rejections.Rejection.{Rejection}
use Rattle.sftp_overlapping.specs.declared.rejections.Rejection.TheVariants as rejections

-- ---- files whose bytes are known

-- the files of a session have these bytes
pub record IsMember {T : Type 0} (bytes : T → Option (List ℕ)) (member : Member T) (files : SessionFiles) : Type 0
  where
    pub name_is : files.name ≡ member.name.now
    pub transcript_is : bytes member.transcript.file ≡ Some files.transcript
    pub times_are : bytes member.times.file ≡ Some files.times

-- those of each session
abbrev pub AreMembers : {T : Type 0} → (T → Option (List ℕ)) → List (Member T) → List SessionFiles → Type 0
AreMembers bytes [] [] = ⊤
AreMembers bytes [] (files ∷ each) = ⊥
AreMembers bytes (member ∷ members) [] = ⊥
AreMembers bytes (member ∷ members) (files ∷ each) = IsMember bytes member files × AreMembers bytes members each

-- the tree file, the order and the files of the sessions have these bytes
pub record AreFiles {T : Type 0} (bytes : T → Option (List ℕ)) (tree order : T) (members : List (Member T))
    (files : SetFiles) : Type 0
  where
    pub tree_is : bytes tree ≡ Some files.tree
    pub order_is : bytes order ≡ Some files.order
    pub members_are : AreMembers bytes members files.each

-- ---- why a set is not accepted

-- it is refused, or a file is malformed; where memory ran out, or a file cannot be read, nothing is said of it
abbrev pub IsJudged : Rejection → Type 0
IsJudged (rejections.Refused cause) = ⊤
IsJudged (rejections.Failed (failures.Tree error)) = ⊤
IsJudged (rejections.Failed (failures.Text text)) = ⊤
IsJudged (rejections.Failed other) = ⊥

-- memory ran out while the order was read
abbrev pub IsUnreadOrder : PlacesError → Type 0
IsUnreadOrder (Order order_errors.NoMemory) = ⊤
IsUnreadOrder other = ⊥

-- these are the files of no sessions whose times are on one clock
abbrev pub AreNoSessions : List SessionFiles → Type 0
AreNoSessions each = (clock : SetClock) (sessions : List (List TimedEvent)) → AreSessionsOf clock each sessions → ⊥

-- a set that is refused is said to be so, and a run that failed ends with why
abbrev pub IsReportOf : Rejection → Result Ending Failure → Type 0
IsReportOf (rejections.Refused cause) result = MatchResult result (λ ending. ending ≡ endings.Refused) IsUnwritten
IsReportOf (rejections.Failed failure) result = result ≡ Err failure

-- ---- what is said

-- what is to hold of the tree at the end
abbrev pub EndOf : Type 1
EndOf = Tree → Type 0

-- the tree file of the end is stored, where this is what was there before and is there now
abbrev pub IsStoredEnd : Option (List ℕ) → Option (List ℕ) → EndOf
IsStoredEnd old new end = Becomes old new (picture end)

-- A set is accepted where it is explained, with an end of which this holds. It is refused, and a file is said to be
-- malformed, only where its order explains nothing. Where the run fails otherwise this says nothing.
abbrev pub IsSaid : {S : Type 0} → StepOf S → (Tree → S) → (S → Tree) → ℕ → EndOf → SetFiles
    → Result Ending Failure → Type 0
IsSaid step begin close tolerance OfEnd files (Ok endings.Done) =
    (end : Tree) × IsSetExplained step begin close tolerance files.tree files.each end × OfEnd end
IsSaid step begin close tolerance OfEnd files (Ok endings.Refused) =
    IsExplainedByOrder step begin tolerance files → ⊥
IsSaid step begin close tolerance OfEnd files (Ok other) = ⊥
IsSaid step begin close tolerance OfEnd files (Err (failures.Tree error)) =
    IsExplainedByOrder step begin tolerance files → ⊥
IsSaid step begin close tolerance OfEnd files (Err (failures.Text text)) =
    IsExplainedByOrder step begin tolerance files → ⊥
IsSaid step begin close tolerance OfEnd files (Err failure) = ⊤

-- without a profile strictly
abbrev pub IsSaidAsked : Option Profile → ℕ → EndOf → SetFiles → Result Ending Failure → Type 0
IsSaidAsked None = IsSaid Allowed started closed_tree
IsSaidAsked (Some profile) = IsSaid Permitted (begun profile) (λ s. closed_tree s.session)

-- the same of files that are judged by an order with these places
abbrev pub IsExplainedAsked : Option Profile → ℕ → List ℕ → List SessionFiles → Tree → Type 0
IsExplainedAsked None = IsSetExplained Allowed started closed_tree
IsExplainedAsked (Some profile) = IsSetExplained Permitted (begun profile) (λ s. closed_tree s.session)

abbrev pub IsExplainedByPlaces : Option Profile → ℕ → List ℕ → List SessionFiles → List ℕ → Type 0
IsExplainedByPlaces None = IsSetExplainedBy Allowed started
IsExplainedByPlaces (Some profile) = IsSetExplainedBy Permitted (begun profile)

-- the order of the files explains them
abbrev pub IsOrderRight : Option Profile → ℕ → SetFiles → Type 0
IsOrderRight None = IsExplainedByOrder Allowed started
IsOrderRight (Some profile) = IsExplainedByOrder Permitted (begun profile)
