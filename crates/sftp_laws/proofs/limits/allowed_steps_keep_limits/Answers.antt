use Rattle.sftp_laws.proofs.LimitsKept.{limits-kept}
use Rattle.sftp_laws.proofs.limits.allowed_steps_keep_limits.Goals as goal

pub returns : goal.returns
returns c s end request reply allowed = limits-kept s end request reply allowed
