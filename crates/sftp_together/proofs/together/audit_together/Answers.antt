-- What is wrong at the first place refutes the order.
use Rattle.std.proofs.Common.{rules}
use Rattle.sftp_together.proofs.Refuting.{refutes}
use Rattle.sftp_together.proofs.together.audit_together.Goals as goal

pub returns-in-Err-clause-refused : goal.returns-in-Err-clause-refused
returns-in-Err-clause-refused g c judged last explains =
    refutes g.J.Judges.allowed g.met.J.Judges.one_end (g.J.Judges.begun c.args.by c.args.start) c.args.tolerance
    (g.S.Sessions.ahead c.args.sessions.now) c.args.order.now c.in-Err.fault last (search rules) judged explains
