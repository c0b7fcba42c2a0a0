use Rattle.sftp_handles.proofs.Judged.QueryReplies.{answered-query}
use Rattle.sftp_handles.proofs.sessions.Session.answer_query.Goals as goal

pub returns-in_ok-answer-in-Ok-clause-done : goal.returns-in_ok-answer-in-Ok-clause-done
returns-in_ok-answer-in-Ok-clause-done g c =
    answered-query c.args.self.now c.args.ask.now c.in-Ok.payload c.in_ok-answer-in-Ok.answer c.requires
    c.in-Ok.ensures.carried c.in_ok-answer-in-Ok.ensures
