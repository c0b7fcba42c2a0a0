use Rattle.sftp_tests.proofs.AuditedLaws.{accepted, one-end}
use Rattle.sftp_tests.proofs.answered.answer_and_accept.Goals as goal

-- src/answered.rt:14:1
pub returns-clause-accepted : goal.returns-clause-accepted
returns-clause-accepted c =
    accepted c.args.ours.now c.args.theirs.now c.answer.new.self c.args.request.now c.in_ok-reply.reply c.accept-accepted.result
    c.requires c.in_ok-reply.ensures.allowed c.accept-accepted.ensures.refused

-- src/answered.rt:14:1
pub returns-clause-same : goal.returns-clause-same
returns-clause-same c =
    one-end c.args.ours.now c.args.theirs.now c.answer.new.self c.accept-accepted.new.self c.args.request.now c.in_ok-reply.reply
    c.accept-accepted.result c.requires c.in_ok-reply.ensures.allowed c.accept-accepted.ensures.allowed
    (accepted c.args.ours.now c.args.theirs.now c.answer.new.self c.args.request.now c.in_ok-reply.reply c.accept-accepted.result
    c.requires c.in_ok-reply.ensures.allowed c.accept-accepted.ensures.refused)
