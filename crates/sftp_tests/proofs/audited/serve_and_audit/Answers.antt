use Rattle.std.proofs.Common.{rules}
use Rattle.sftp_tests.proofs.AuditedLaws.{agreement}
use Rattle.sftp_tests.proofs.audited.serve_and_audit.Goals as goal

-- src/audited.rt:39:1
pub returns-clause-agrees : goal.returns-clause-agrees
returns-clause-agrees g c =
    agreement c.in_ok-start.start c.args.tree.now c.into_inner-log.result.items c.as_slice.result.now
    (g.R.Source.left c.args.reader.now) (g.W.Sink.written c.args.writer.now) (g.R.Source.left c.serve-ended.new.reader)
    (g.W.Sink.written c.serve-ended.new.writer) c.in-Ok.record.bytes c.serve-ended.new.log.bytes c.serve-ended.result
    c.audit-audited.result c.in_ok-start.ensures.found (search rules) (search rules) (search rules)
    c.serve-ended.ensures.served c.audit-audited.ensures.accepted c.audit-audited.ensures.refused
