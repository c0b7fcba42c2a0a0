use Rattle.sftp_handles.proofs.Imports.{subst, IsRefusal, said_in}
use Rattle.sftp_handles.proofs.Judged.{judged-refused, unlike}
use Rattle.sftp_handles.proofs.Judged.QueryReplies.{judged-query}
use Rattle.sftp_handles.proofs.sessions.Session.judge_query.Goals as goal

pub returns-in-Ok : goal.returns-in-Ok
returns-in-Ok g c =
    judged-query c.args.self.now c.args.ask.now (said_in c.in-Ok.payload) c.args.answer.now c.is_in.result
    c.requires.purpose c.requires.unlike c.in-Ok.ensures.carried c.is_in.ensures

pub returns-in-Err-Cause : goal.returns-in-Err-Cause
returns-in-Err-Cause g c =
    judged-refused c.args.self.now c.args.ask.now c.args.answer.now c.in-Err-Cause.field-0-0
    (subst (IsRefusal c.args.self.now c.args.ask.now) c.in-Err-Cause.field-0-is c.in-Err-Cause.ensures.refused)
    (unlike c.args.self.now c.args.ask.now c.args.answer.now c.requires.unlike)
