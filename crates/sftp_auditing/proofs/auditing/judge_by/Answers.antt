-- The reader has read nothing yet, so the audit speaks of all bytes of the transcript.
use Rattle.std.proofs.Common.{ap}
use Rattle.sftp_verdicts.proofs.Fresh.{is_new}
use Rattle.sftp_auditing.proofs.auditing.judge_by.Goals as goal

pub returns-in-Ok : goal.returns-in-Ok
returns-in-Ok g c = λ tree is.
    let known = g.F.Read.remaining c.args.transcript in
    c.judge_records-ended.ensures tree is known
    (is_new known _ _ _ c.in-Ok.records (ap g.F.Read.remaining c.new.ensures.inner) c.in-Ok.ensures.ok)
