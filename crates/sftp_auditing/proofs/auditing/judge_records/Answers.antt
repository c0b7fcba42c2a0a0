-- A complete session and one that may have been cut, each by its own audit.
use Rattle.std.proofs.Common.{Result, sym, subst}
use Rattle.sftp_audit.specs.declared.cuts.EndedCut.{EndedCut}
use Rattle.sftp_audit.specs.declared.errors.AuditError.{AuditError}
use Rattle.sftp_audit.specs.Audit.{IsFirstFaultBy, IsToldBy}
use Rattle.sftp_auditing.specs.Audits.{IsAudit, accounts_by}
use Rattle.sftp_auditing.proofs.AuditLaws.{audited, audited_cut}
use Rattle.sftp_auditing.proofs.auditing.judge_records.Goals as goal

pub returns-then-cuts : goal.returns-then-cuts
returns-then-cuts g c = λ tree is known new.
    audited_cut g.J.Judges.allowed g.J.Judges.follows (g.J.Judges.begun c.args.by) g.J.Judges.closed c.args.start tree is
    known _ new _ c.args.cuts c.if-cuts.true c.audit_cut_tree_by.result c.audit_cut_tree_by.ensures.accepted
    c.audit_cut_tree_by.ensures.refused c.audit_cut_tree_by.ensures.first c.audit_cut_tree_by.ensures.told

pub returns-else-cuts : goal.returns-else-cuts
returns-else-cuts g c = λ tree is known new.
    let begin = g.J.Judges.begun c.args.by in
    subst (λ (result : Result EndedCut AuditError).
    IsAudit (accounts_by c.args.cuts g.J.Judges.allowed begin g.J.Judges.closed)
    (IsFirstFaultBy g.J.Judges.allowed begin) (IsToldBy g.J.Judges.allowed g.J.Judges.follows begin) tree known result
    c.audit_tree_by.new.follows) (sym c.uncut.ensures)
    (audited g.J.Judges.allowed g.J.Judges.follows begin g.J.Judges.closed c.args.start tree is known _ new _ c.args.cuts
    c.if-cuts.false c.audit_tree_by.result c.audit_tree_by.ensures.accepted c.audit_tree_by.ensures.refused
    c.audit_tree_by.ensures.first c.audit_tree_by.ensures.told)
