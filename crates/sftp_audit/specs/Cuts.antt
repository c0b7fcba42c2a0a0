-- Which files an audit of a cut session accepts: those of a starting tree and of a recorded session in which requests
-- may still wait for their replies.
use Rattle.std.specs.Prelude.{◌≡◌, ⊤, ℕ, Bool, List, length, filter, not}
use Rattle.sftp_transcript.specs.declared.events.Event.{Event}
use Rattle.sftp_audit.specs.declared.errors.Refusal.TheVariants as refusals
use Rattle.sftp_audit.specs.declared.errors.AuditError.{AuditError}
use Rattle.sftp_audit.specs.declared.errors.AuditError.TheVariants as audit_errors
use Rattle.sftp_audit.specs.declared.exchanges.Exchange.{Exchange}
use Rattle.sftp_tree.specs.Tree.{Tree}
use Rattle.sftp_tree.specs.Picture.{IsStart}
use Rattle.sftp_handles.specs.State.{started, closed_tree}
use Rattle.sftp_handles.specs.Allowed.{Allowed}
use Rattle.sftp_transcript.specs.Transcript.{IsRecord}
use Rattle.sftp_transcript.specs.Explained.{StepOf}
use Rattle.sftp_transcript.specs.Sound.{Sound}
use Rattle.sftp_audit.specs.Exchanges.{recorded_exchanges, is_answered, unsettled}

-- The tree file is the start, and the transcript records the events. These are sound from the start: no event came out
-- of turn or too late, and the requests before the oldest unanswered one, carried out singly and in sequence, allow
-- their replies and lead to a last state. The end is the tree of that state once nothing is open.
pub record AccountsCutBy {S : Type 0} (step : StepOf S) (begin : Tree → S) (close : S → Tree) (tree transcript : List ℕ)
    (start : Tree) (events : List Event) (end : Tree) : Type 0
  where
    pub start_is : IsStart start tree
    pub events_are : IsRecord events transcript
    pub last : S
    pub sound : Sound step (begin start) events last
    pub end_is : end ≡ close last

-- where the replies are judged strictly
abbrev pub AccountsCut : List ℕ → List ℕ → Tree → List Event → Tree → Type 0
AccountsCut = AccountsCutBy Allowed started closed_tree

-- ---- what is not judged

unfoldable pub is_unanswered : Exchange → Bool
is_unanswered exchange = not (is_answered exchange)

-- how many of these requests have no reply
abbrev pub unanswered_count : List Exchange → ℕ
unanswered_count exchanges = length (filter is_unanswered exchanges)

-- how many requests there are from the oldest unanswered one on
abbrev pub unsettled_count : List Event → ℕ
unsettled_count events = length (unsettled (recorded_exchanges events))

-- the error says that a request has no reply
abbrev pub IsUnanswered : AuditError → Type 0
IsUnanswered (audit_errors.Refused (refusals.Unanswered number)) = ⊤
IsUnanswered other = ⊥
