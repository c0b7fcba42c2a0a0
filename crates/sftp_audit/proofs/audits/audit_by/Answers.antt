-- The reader of bytes in memory is new, and never fails.
use Rattle.sftp_audit.proofs.streams.Starts.{HasNoRun}
use Rattle.sftp_audit.proofs.streams.{refused-memory}
use Rattle.sftp_audit.proofs.audits.audit_by.Goals as goal

pub returns-clause-refused : goal.returns-clause-refused
returns-clause-refused g c =
    refused-memory
    (HasNoRun g.J.Judges.allowed (g.J.Judges.begun c.args.by) g.J.Judges.closed c.args.tree.now)
    c.args.transcript.now c.new.result.rest.now _ _ c.in_ok-records.records c.audit_stream_by-audited.result
    c.new.ensures c.in_ok-records.ensures.ok c.audit_stream_by-audited.ensures.refused
    c.audit_stream_by-audited.ensures.may_fail
