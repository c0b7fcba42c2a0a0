use Rattle.sftp_audit.proofs.steps.{explained-one_end}
use Rattle.sftp_audit.proofs.laws.one_end_by.Goals as goal

pub returns : goal.returns
returns g c = explained-one_end g.J.Judges.allowed g.met.J.Judges.one_end
