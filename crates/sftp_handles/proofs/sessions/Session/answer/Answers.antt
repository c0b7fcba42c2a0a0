use Rattle.sftp_handles.proofs.Imports.{refl, sym, subst, reply_packet, HasSpelling, Allowed}
use Rattle.sftp_handles.proofs.Judged.{step-is_allowed}
use Rattle.sftp_handles.proofs.sessions.Session.answer.Goals as goal

pub returns-clause-allowed : goal.returns-clause-allowed
returns-clause-allowed g c =
    subst (λ reply. Allowed c.args.self.now c.args.request.now reply c.answer_to.new.self)
    (sym c.reply_with.ensures.reply)
    (step-is_allowed c.args.self.now c.args.request.now
    (record { id = c.args.request.now.id; answer = c.in_ok-answer.answer }) c.answer_to.new.self refl
    c.in_ok-answer.ensures.answered)

pub returns-clause-spelled : goal.returns-clause-spelled
returns-clause-spelled g c =
    subst (λ reply. HasSpelling (reply_packet reply)) (sym c.reply_with.ensures.reply)
    (c.in_ok-answer.ensures.spelled c.args.request.now.id c.reply_with.ensures.fits)
