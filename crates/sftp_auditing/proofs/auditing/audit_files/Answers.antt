-- The files that are opened have the bytes that are known of them.
use Rattle.std.proofs.Common.{subst}
use Rattle.sftp_auditing.specs.Audits.{accounts_asked, fault_asked}
use Rattle.sftp_auditing.specs.Starts.{IsStartOf}
use Rattle.sftp_auditing.proofs.AuditLaws.{opened_said}
use Rattle.sftp_auditing.proofs.auditing.audit_files.Goals as goal

pub returns-in-Ok-start-clause-verdict : goal.returns-in-Ok-start-clause-verdict
returns-in-Ok-start-clause-verdict g c = λ bytes known within.
    let files = c.args.files.now in
    let is_start =
    subst (IsStartOf bytes) c.in-Ok-start.is (c.in_ok-start.ensures.start bytes (c.in_ok-file.ensures.bytes bytes known) within) in
    opened_said (accounts_asked files.profile files.cuts) (fault_asked files.profile) _ bytes _ _
    c.audit_transcript.result c.in-Ok.ensures.bytes (c.audit_transcript.ensures.verdict bytes is_start)
