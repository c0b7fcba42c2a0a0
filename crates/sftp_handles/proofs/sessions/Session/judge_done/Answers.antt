use Rattle.sftp_handles.proofs.Imports.{sym, ◌∙◌}
use Rattle.sftp_handles.proofs.Answered.{judged-unknown}
use Rattle.sftp_handles.proofs.sessions.Session.judge_done.Goals as goal

pub returns-in-Unknown-clause-ok : goal.returns-in-Unknown-clause-ok
returns-in-Unknown-clause-ok g c =
    judged-unknown c.args.self.now c.args.ask.now c.args.answer.now (sym c.purpose_of.ensures ∙ c.in-Unknown.is)
    c.requires.unlike
