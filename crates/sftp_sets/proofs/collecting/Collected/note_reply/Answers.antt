-- A reply is taken and what is answered is settled, or the reply is refused.
use Rattle.std.proofs.Common.{rules}
use Rattle.std.proofs.lemmas.Result.{err_from_is_err_and}
use Rattle.sftp_sets.proofs.Holding.{notes-replied, refused-reply}
use Rattle.sftp_sets.proofs.collecting.Collected.note_reply.Goals as goal

pub returns-in_err-answer-clause-refused : goal.returns-in_err-answer-clause-refused
returns-in_err-answer-clause-refused c =
    let p = err_from_is_err_and c.from_residual.result c.from_residual.ensures.1 in
    rw (p.1, p.2)
    (refused-reply c.args.times.now.start c.args.times.now.entries.items c.args.reply c.stamp-stamp.result c.args.self.now
    c.in_err-answer.field-0.0 c.stamp-stamp.ensures c.in_err-answer.ensures.refused)

pub returns-clause-holds : goal.returns-clause-holds
returns-clause-holds c =
    notes-replied c.args.times.now.start c.args.times.now.entries.items c.args.reply c.stamp-stamp.result c.args.self.now _
    c.answer.new.kept.items c.stamp-stamp.ensures c.in_ok-answer.ensures.waited c.in_ok-answer.ensures.noted
    c.in_ok-answer.ensures.timely c.in_ok-settle.ensures.moved c.in_ok-settle.ensures.first_waits (search rules)
