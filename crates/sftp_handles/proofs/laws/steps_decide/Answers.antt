use Rattle.sftp_handles.proofs.Judged.{step-is_allowed, allowed-step}
use Rattle.sftp_handles.proofs.laws.steps_decide.Goals as goal

pub returns : goal.returns
returns c s request reply end = (
  λ a. (a.same_id, allowed-step s request reply end a),
  λ both. step-is_allowed s request reply end both.0 both.1,
)
