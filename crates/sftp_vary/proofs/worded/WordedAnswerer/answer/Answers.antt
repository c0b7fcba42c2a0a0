-- The other answerer's reply is allowed, and this one says the same but for what is free.
use Rattle.sftp_bare.proofs.BareReplies.{still-allowed}
use Rattle.sftp_vary.proofs.worded.WordedAnswerer.answer.Goals as goal

pub returns-in-Ok-clause-allowed : goal.returns-in-Ok-clause-allowed
returns-in-Ok-clause-allowed g c =
    still-allowed c.args.session.now c.args.request.now c.in-Ok.reply c.in_words.result c.answer.new.session
    c.in-Ok.ensures.allowed c.in_words.ensures.same_id c.in_words.ensures.same
