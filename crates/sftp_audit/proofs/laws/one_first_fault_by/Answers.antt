use Rattle.sftp_audit.proofs.streams.FirstFaults.{one_first_fault}
use Rattle.sftp_audit.proofs.laws.one_first_fault_by.Goals as goal

pub returns : goal.returns
returns g c by = one_first_fault g.J.Judges.allowed g.met.J.Judges.one_end (g.J.Judges.begun by)
