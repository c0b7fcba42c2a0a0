use Rattle.sftp_handles.proofs.Imports.{sym, ◌∙◌, allow}
use Rattle.sftp_handles.proofs.Judged.{judged-refusal}
use Rattle.sftp_handles.proofs.sessions.Session.judge.Goals as goal

pub returns-in_ok-causes-in-Some-clause-ok : goal.returns-in_ok-causes-in-Some-clause-ok
returns-in_ok-causes-in-Some-clause-ok g c =
    judged-refusal c.args.self.now c.args.ask.now c.args.answer.now c.in-Some.code c.allow.result
    (sym c.refusal_code.ensures ∙ c.in-Some.is)
    (sym (c.allow.ensures ∙ (λ i. allow (λ cause. c.in_ok-causes-in-Some.ensures cause i) c.in-Some.code)))
