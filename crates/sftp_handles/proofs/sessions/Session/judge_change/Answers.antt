use Rattle.sftp_handles.proofs.Imports.{sym, ◌∙◌}
use Rattle.sftp_handles.proofs.Judged.{judged-call, judged-other_answer}
use Rattle.sftp_handles.proofs.sessions.Session.judge_change.Goals as goal

pub returns-then-not-has_code-clause-ok : goal.returns-then-not-has_code-clause-ok
returns-then-not-has_code-clause-ok g c =
    judged-other_answer c.args.self.now c.args.ask.now c.args.answer.now c.requires.purpose c.requires.unlike
    (sym c.has_code.ensures ∙ c.if-not-has_code.true)

pub returns-clause-ok : goal.returns-clause-ok
returns-clause-ok g c =
    rw c.is_done.ensures
    (judged-call c.args.self.now c.args.ask.now c.args.answer.now c.do_ok.new.self c.do_ok.result
    (sym c.has_code.ensures ∙ c.if-not-has_code.false) c.do_ok.ensures.done c.do_ok.ensures.refused
    c.do_ok.ensures.kept)
