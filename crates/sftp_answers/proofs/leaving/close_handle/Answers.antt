use Rattle.sftp_answers.proofs.Closing.{handle_closed}
use Rattle.sftp_answers.proofs.leaving.close_handle.Goals as goal

pub returns-in-Ok-clause-closed : goal.returns-in-Ok-clause-closed
returns-in-Ok-clause-closed c =
    handle_closed c.args.client c.args.number c.args.session.now c.answer-answered.new.self _ c.in-Ok.reply
    c.in_ok-request.ensures c.in-Ok.ensures.allowed
