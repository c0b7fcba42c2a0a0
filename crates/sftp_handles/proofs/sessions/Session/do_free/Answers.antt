use Rattle.sftp_handles.proofs.Imports.{sym, ◌∙◌}
use Rattle.sftp_handles.proofs.Answered.{unknown-refused}
use Rattle.sftp_handles.proofs.sessions.Session.do_free.Goals as goal

pub returns-in-Unknown-clause-refused : goal.returns-in-Unknown-clause-refused
returns-in-Unknown-clause-refused g c =
    unknown-refused c.args.self.now c.args.ask.now (sym c.purpose_of.ensures ∙ c.in-Unknown.is)
