use Rattle.sftp_handles.proofs.Imports.{sym, ◌∙◌, Readdir}
use Rattle.sftp_handles.proofs.Judged.GivenNames.{judged-unlisted}
use Rattle.sftp_handles.proofs.Judged.{judged-coded}
use Rattle.sftp_handles.proofs.sessions.Session.judge_listing.Goals as goal

pub returns-then-has_code-clause-ok : goal.returns-then-has_code-clause-ok
returns-then-has_code-clause-ok g c =
    judged-coded c.args.self.now (Readdir c.args.handle.now) c.args.answer.now 1 c.has_given_all.result
    c.args.self.now (sym c.has_code.ensures ∙ c.if-has_code.true) c.has_given_all.ensures

pub returns-in_default-clause-ok : goal.returns-in_default-clause-ok
returns-in_default-clause-ok g c =
    judged-unlisted c.args.self.now c.args.handle.now c.args.answer.now c.requires
    (sym c.has_code.ensures ∙ c.if-has_code.false) c.in_default.not-Name
