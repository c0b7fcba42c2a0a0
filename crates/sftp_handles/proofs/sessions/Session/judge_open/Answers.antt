use Rattle.sftp_handles.proofs.Judged.GivenNames.{judged-no_handle}
use Rattle.sftp_handles.proofs.sessions.Session.judge_open.Goals as goal

pub returns-in_default-clause-ok : goal.returns-in_default-clause-ok
returns-in_default-clause-ok g c =
    judged-no_handle c.args.self.now c.args.ask.now c.args.answer.now c.requires.purpose c.requires.unlike
    c.in_default.not-Handle
