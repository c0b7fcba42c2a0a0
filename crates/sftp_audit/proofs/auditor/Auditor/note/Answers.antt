-- What is noted of an event, and why it is refused.
use Rattle.sftp_audit.proofs.Imports.{refl, err_from_is_err_and, IfErr-weaker}
use Rattle.sftp_audit.proofs.auditing.Standing.{result-asked, refused-asked, wrong-asked, told-asked, result-replied}
use Rattle.sftp_audit.proofs.auditing.Standing.{refused-replied, wrong-replied, told-replied, refused-settling}
use Rattle.sftp_audit.proofs.auditing.Standing.{wrong-settling, told-settling, viewed}
use Rattle.sftp_audit.proofs.auditor.Auditor.note.Goals as goal

pub returns-in-Asked-clause-stands : goal.returns-in-Asked-clause-stands
returns-in-Asked-clause-stands g c =
    rw (c.in-Asked.is, ← c.self.view_is)
    (result-asked g.J.Judges.allowed c.ask.result c.in-Asked.request (viewed c.self.view_is) _ c.ask.ensures.apart c.ask.ensures.in_time
    c.ask.ensures.noted refl refl)

pub returns-in-Asked-clause-refused : goal.returns-in-Asked-clause-refused
returns-in-Asked-clause-refused g c =
    rw (c.in-Asked.is, ← c.self.view_is)
    (IfErr-weaker c.ask.result _ _ (refused-asked g.J.Judges.allowed c.in-Asked.request (viewed c.self.view_is)) c.ask.ensures.refused)

pub returns-in-Asked-clause-wrong : goal.returns-in-Asked-clause-wrong
returns-in-Asked-clause-wrong g c =
    rw (c.in-Asked.is, ← c.self.view_is)
    (IfErr-weaker c.ask.result _ _ (wrong-asked g.J.Judges.allowed c.in-Asked.request (viewed c.self.view_is) _) c.ask.ensures.refused)

pub returns-in-Asked-clause-told : goal.returns-in-Asked-clause-told
returns-in-Asked-clause-told g c =
    rw (c.in-Asked.is, ← c.self.view_is)
    (IfErr-weaker c.ask.result _ _ (told-asked g.J.Judges.allowed g.J.Judges.follows c.in-Asked.request (viewed c.self.view_is) _ refl) c.ask.ensures.refused)

pub returns-in_err-answer-in-Replied-clause-refused : goal.returns-in_err-answer-in-Replied-clause-refused
returns-in_err-answer-in-Replied-clause-refused g c =
    let p = err_from_is_err_and c.from_residual.result c.from_residual.ensures.1 in
    let e = c.in_err-answer-in-Replied in
    rw (p.1, p.2, c.in-Replied.is, ← c.self.view_is)
    (refused-replied g.J.Judges.allowed c.in-Replied.reply (viewed c.self.view_is) e.field-0.0 e.ensures.refused)

pub returns-in_err-answer-in-Replied-clause-wrong : goal.returns-in_err-answer-in-Replied-clause-wrong
returns-in_err-answer-in-Replied-clause-wrong g c =
    let p = err_from_is_err_and c.from_residual.result c.from_residual.ensures.1 in
    let e = c.in_err-answer-in-Replied in
    rw (p.1, p.2, c.in-Replied.is, ← c.self.view_is)
    (wrong-replied g.J.Judges.allowed c.in-Replied.reply (viewed c.self.view_is) _ e.field-0.0 e.ensures.refused)

pub returns-in_err-answer-in-Replied-clause-told : goal.returns-in_err-answer-in-Replied-clause-told
returns-in_err-answer-in-Replied-clause-told g c =
    let p = err_from_is_err_and c.from_residual.result c.from_residual.ensures.1 in
    let e = c.in_err-answer-in-Replied in
    rw (p.1, p.2, c.in-Replied.is, ← c.self.view_is)
    (told-replied g.J.Judges.allowed g.J.Judges.follows c.in-Replied.reply (viewed c.self.view_is) _ refl e.field-0.0 e.ensures.refused)

pub returns-in_ok-answer-in-Replied-clause-stands : goal.returns-in_ok-answer-in-Replied-clause-stands
returns-in_ok-answer-in-Replied-clause-stands g c =
    let e = c.in_ok-answer-in-Replied.ensures in
    rw (c.in-Replied.is, ← c.self.view_is)
    (result-replied g.J.Judges.allowed c.settle.result c.in-Replied.reply (viewed c.self.view_is) c.answer.new.self _ (e.waited, e.noted)
    c.settle.ensures.kept c.settle.ensures.ran c.settle.ensures.untold)

pub returns-in_ok-answer-in-Replied-clause-refused : goal.returns-in_ok-answer-in-Replied-clause-refused
returns-in_ok-answer-in-Replied-clause-refused g c =
    let e = c.in_ok-answer-in-Replied.ensures in
    rw (c.in-Replied.is, ← c.self.view_is)
    (IfErr-weaker c.settle.result _ _
    (refused-settling g.J.Judges.allowed c.in-Replied.reply (viewed c.self.view_is) c.answer.new.self (e.waited, e.noted))
    c.settle.ensures.refused)

pub returns-in_ok-answer-in-Replied-clause-wrong : goal.returns-in_ok-answer-in-Replied-clause-wrong
returns-in_ok-answer-in-Replied-clause-wrong g c =
    let e = c.in_ok-answer-in-Replied.ensures in
    rw (c.in-Replied.is, ← c.self.view_is)
    (IfErr-weaker c.settle.result _ _
    (wrong-settling g.J.Judges.allowed c.in-Replied.reply (viewed c.self.view_is) c.answer.new.self _ (e.waited, e.noted))
    c.settle.ensures.wrong)

pub returns-in_ok-answer-in-Replied-clause-told : goal.returns-in_ok-answer-in-Replied-clause-told
returns-in_ok-answer-in-Replied-clause-told g c =
    let e = c.in_ok-answer-in-Replied.ensures in
    rw (c.in-Replied.is, ← c.self.view_is)
    (IfErr-weaker c.settle.result _ _
    (told-settling g.J.Judges.allowed g.J.Judges.follows c.in-Replied.reply (viewed c.self.view_is) c.answer.new.self _ (e.waited, e.noted))
    c.settle.ensures.told)
