-- The session's reply is allowed, and this one says the same but for what is free.
use Rattle.sftp_bare.proofs.BareReplies.{still-allowed}
use Rattle.sftp_clock.proofs.clocked.ClockedAnswerer.answer.Goals as goal

pub returns-in-Ok-clause-allowed : goal.returns-in-Ok-clause-allowed
returns-in-Ok-clause-allowed g c =
    still-allowed c.args.session.now c.args.request.now c.in-Ok.reply c.time.new.reply c.answer.new.self
    c.in-Ok.ensures.allowed c.time.ensures.same_id c.time.ensures.same
