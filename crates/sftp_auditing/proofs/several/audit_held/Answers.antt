-- No tree is stored, so the one at the end may be any.
use Rattle.sftp_auditing.specs.Audits.{accounts_asked, fault_asked}
use Rattle.sftp_auditing.proofs.AuditLaws.{any_end_said}
use Rattle.sftp_auditing.proofs.several.audit_held.Goals as goal

pub returns-clause-verdict : goal.returns-clause-verdict
returns-clause-verdict g c = λ bytes known within.
    let files = c.args.files.now in
    any_end_said (accounts_asked files.profile files.cuts) (fault_asked files.profile) _ bytes _ _
    (c.audit_files-ending.ensures.verdict bytes known within)
