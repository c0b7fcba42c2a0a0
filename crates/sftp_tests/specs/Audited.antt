-- What the server logs, and what the auditor says of it.
use Rattle.std.specs.Prelude.{◌≡◌, ◌⊎◌, ⊤, ℕ, List, [], Some, Result, Ok, Err}
use Rattle.sftp_tree.specs.Tree.{Tree}
use Rattle.sftp_tree.specs.Picture.{picture}
use Rattle.sftp_server.specs.declared.ends.Ended.{Ended}
use Rattle.sftp_server.specs.declared.ends.Ended.TheVariants as ends
use Rattle.sftp_server.specs.Served.{StreamBytes}
use Rattle.sftp_audit.specs.declared.audits.Accepted.{Accepted}
use Rattle.sftp_audit.specs.declared.errors.AuditError.{AuditError}
use Rattle.sftp_audit.specs.declared.errors.AuditError.TheVariants.{NoMemory}
use Rattle.sftp_handles.specs.State.{closed_tree}
use Rattle.sftp_profile.specs.declared.profiles.Profile.{Profile}
use Rattle.sftp_profile.specs.State.{begun}
use Rattle.sftp_profile.specs.Permitted.{Permitted}
use Rattle.sftp_transcript.specs.declared.events.Event.{Event}
use Rattle.sftp_audit.specs.Audit.{AccountsBy, IsFirstFaultBy}

-- what was logged between two moments, where nothing was logged before
pub record IsLogged (past now : StreamBytes) (log : List ℕ) : Type 0 where
  pub nothing_before : past.logged ≡ Some []
  pub all_now : now.logged ≡ Some log

-- the auditor accepts, with the picture of this tree, or its memory ran out
abbrev pub AcceptsWith : Tree → Result Accepted AuditError → Type 0
AcceptsWith end (Ok accepted) = accepted.tree.items ≡ picture end
AcceptsWith end (Err error) = error ≡ NoMemory

-- What the auditor says of the log of a session that began on this tree and ended so: of a session that ended by itself
-- or by a fault, it accepts with the tree that the server reports, but where no session was opened nothing was logged.
abbrev pub Agrees : Tree → List ℕ → Ended → Result Accepted AuditError → Type 0
Agrees start log (ends.Finished end) audited = AcceptsWith end audited
Agrees start log (ends.Fault end fault) audited = ((log ≡ []) × (end ≡ start)) ⊎ AcceptsWith end audited
Agrees start log (ends.Io stream) audited = ⊤
Agrees start log ends.NoMemory audited = ⊤

-- ==== What bytes account for under a profile, and what an audit under it meets first.

abbrev pub AccountsUnder : Profile → List ℕ → List ℕ → Tree → List Event → Tree → Type 0
AccountsUnder profile = AccountsBy Permitted (begun profile) (λ s. closed_tree s.session)

abbrev pub IsFirstFaultUnder : Profile → List ℕ → List ℕ → AuditError → Type 0
IsFirstFaultUnder profile = IsFirstFaultBy Permitted (begun profile)
