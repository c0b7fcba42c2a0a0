-- What verdicts are about: which run a tree file and a transcript account for, and the status of a run that has one.
use Rattle.std.specs.Prelude.{◌≤◌, ℕ, List, Result, Ok, Err, Option, Some, None}
use Rattle.sftp_files.specs.declared.messages.Ending.{Ending}
use Rattle.sftp_files.specs.declared.messages.Failure.{Failure}
use Rattle.sftp_files.specs.Failures.{ending_status, failure_status}
use Rattle.sftp_tree.specs.Tree.{Tree}
use Rattle.sftp_handles.specs.State.{closed_tree}
use Rattle.sftp_profile.specs.declared.profiles.Profile.{Profile}
use Rattle.sftp_profile.specs.State.{begun}
use Rattle.sftp_profile.specs.Permitted.{Permitted}
use Rattle.sftp_transcript.specs.declared.events.Event.{Event}
use Rattle.sftp_audit.specs.Audit.{Accounts, AccountsBy}
use Rattle.sftp_audit.specs.declared.errors.Refusal.{Refusal}
use Rattle.sftp_audit.specs.declared.errors.Refusal.TheVariants as refusals

-- An audit that has a verdict ends with 0 or 1, and one that failed with 2 or 3.
abbrev pub IsAuditStatus : Result Ending Failure → Type 0
IsAuditStatus (Ok ending) = ending_status ending ≤ 1
IsAuditStatus (Err failure) = 2 ≤ failure_status failure

-- which start, events and end a tree file and a transcript account for
abbrev pub AccountOf : Type 1
AccountOf = List ℕ → List ℕ → Tree → List Event → Tree → Type 0

-- what they account for under a profile
abbrev pub AccountsUnder : Profile → AccountOf
AccountsUnder profile = AccountsBy Permitted (begun profile) (λ s. closed_tree s.session)

-- the same, and without a profile strictly
abbrev pub accounts_under : Option Profile → AccountOf
accounts_under None = Accounts
accounts_under (Some profile) = AccountsUnder profile

-- a refusal with another number of the record
abbrev pub numbered : Refusal → ℕ → Refusal
numbered (refusals.UnknownReply number) record_number = refusals.UnknownReply record_number
numbered (refusals.IdInUse number) record_number = refusals.IdInUse record_number
numbered (refusals.Window number) record_number = refusals.Window record_number
numbered (refusals.NotAllowed number) record_number = refusals.NotAllowed record_number
numbered (refusals.Unanswered number) record_number = refusals.Unanswered record_number
numbered refusals.NoMemory record_number = refusals.NoMemory

-- the number of the record that a refusal names
abbrev pub number_in : Refusal → ℕ
number_in (refusals.UnknownReply number) = number
number_in (refusals.IdInUse number) = number
number_in (refusals.Window number) = number
number_in (refusals.NotAllowed number) = number
number_in (refusals.Unanswered number) = number
number_in refusals.NoMemory = 0
