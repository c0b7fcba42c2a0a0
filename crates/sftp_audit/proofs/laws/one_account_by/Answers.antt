use Rattle.sftp_audit.proofs.streams.FirstFaults.{same_start, same_events, same_end}
use Rattle.sftp_audit.proofs.laws.one_account_by.Goals as goal

pub returns-clause-start : goal.returns-clause-start
returns-clause-start g c by =
    same_start g.J.Judges.allowed g.met.J.Judges.one_end (g.J.Judges.begun by) g.J.Judges.closed

pub returns-clause-events : goal.returns-clause-events
returns-clause-events g c by =
    same_events g.J.Judges.allowed g.met.J.Judges.one_end (g.J.Judges.begun by) g.J.Judges.closed

pub returns-clause-end : goal.returns-clause-end
returns-clause-end g c by =
    same_end g.J.Judges.allowed g.met.J.Judges.one_end (g.J.Judges.begun by) g.J.Judges.closed
