-- What is said of the audit is the verdict that the audit stands for.
use Rattle.sftp_auditing.specs.Audits.{accounts_asked, fault_asked, told_asked}
use Rattle.sftp_auditing.proofs.AuditLaws.{reported}
use Rattle.sftp_auditing.proofs.auditing.judge_and_report.Goals as goal

pub returns-clause-verdict : goal.returns-clause-verdict
returns-clause-verdict g c = λ tree is.
    let files = c.args.files.now in
    reported (accounts_asked files.profile files.cuts) (fault_asked files.profile) (told_asked files.profile) _ tree
    (g.F.Read.remaining c.args.transcript) c.judge_in_view-judged.result.follows c.judge_in_view-judged.result.ended
    c.report-ending.result c.report-ending.ensures.of_audit (c.judge_in_view-judged.ensures tree is)
