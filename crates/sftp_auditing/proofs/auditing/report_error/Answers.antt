-- A refusal is a judgement, and a failure says what the error is.
use Rattle.sftp_auditing.proofs.AuditLaws.{reported_refusal, failure_of}
use Rattle.sftp_auditing.proofs.auditing.report_error.Goals as goal

pub returns-in-Ok-clause-of_error : goal.returns-in-Ok-clause-of_error
returns-in-Ok-clause-of_error g c =
    reported_refusal c.args.files.now.transcript.now c.args.error c.in-Ok.refusal c.report_refusal.result
    c.in-Ok.ensures.outcome c.report_refusal.ensures.ok c.report_refusal.ensures.err

pub returns-in-Err-clause-of_error : goal.returns-in-Err-clause-of_error
returns-in-Err-clause-of_error g c =
    failure_of c.args.files.now.transcript.now c.args.error c.in-Err.failure c.in-Err.ensures.outcome
