use Rattle.sftp_audit.proofs.auditing.Refusals.{cut-of_complete, answered-of_complete, complete-of_cut}
use Rattle.sftp_audit.proofs.auditing.Refusals.{judged-if_answered}
use Rattle.sftp_audit.proofs.laws.complete_if_none_is_unanswered.Goals as goal

pub returns-clause-cut : goal.returns-clause-cut
returns-clause-cut g c by = cut-of_complete g.J.Judges.allowed (g.J.Judges.begun by) g.J.Judges.closed

pub returns-clause-answered : goal.returns-clause-answered
returns-clause-answered g c by = answered-of_complete g.J.Judges.allowed (g.J.Judges.begun by) g.J.Judges.closed

pub returns-clause-complete : goal.returns-clause-complete
returns-clause-complete g c by = complete-of_cut g.J.Judges.allowed (g.J.Judges.begun by) g.J.Judges.closed

pub returns-clause-judged : goal.returns-clause-judged
returns-clause-judged g c = judged-if_answered
