use Rattle.sftp_audit.proofs.auditing.Refusals.{one_refusal}
use Rattle.sftp_audit.proofs.laws.one_refusal.Goals as goal

pub returns : goal.returns
returns g c = one_refusal g.J.Judges.allowed g.met.J.Judges.one_end
