use Rattle.sftp_handles.proofs.Imports.{sym, subst, ◌∙◌, IfOk, Handle, IsJudged}
use Rattle.sftp_handles.proofs.Judged.GivenNames.{judged-lacking, judged-opened, judged-failed, held}
use Rattle.sftp_handles.proofs.sessions.Session.judge_handle.Goals as goal

pub returns-then-not-has_place_for-clause-ok : goal.returns-then-not-has_place_for-clause-ok
returns-then-not-has_place_for-clause-ok g c =
    judged-lacking c.args.self.now c.args.ask.now c.args.handle.now c.requires.purpose
    (sym c.has_place_for.ensures ∙ c.if-not-has_place_for.true)

pub returns-in-Ok-clause-ok : goal.returns-in-Ok-clause-ok
returns-in-Ok-clause-ok g c =
    judged-opened c.args.self.now c.args.ask.now _ c.in_ok-want.want.items c.args.handle.now c.open_for.new.self
    (c.in-Ok.ensures.wanted c.requires.table) c.in_ok-want.ensures.items c.in-Ok.ensures.done

pub returns-in-Err-clause-ok : goal.returns-in-Err-clause-ok
returns-in-Err-clause-ok g c =
    subst
    (λ result. IfOk result
    (λ ok. IsJudged c.args.self.now c.args.ask.now (Handle c.args.handle.now) ok c.open_for.new.self))
    (sym c.not_opened.ensures)
    (judged-failed c.args.self.now c.args.ask.now c.in_ok-want.want.items c.args.handle.now c.open_for.new.self
    c.in-Err.failed c.requires.purpose c.in_ok-want.ensures.items c.in-Err.ensures.failed c.in-Err.ensures.kept)

pub returns-in-Err-clause-err : goal.returns-in-Err-clause-err
returns-in-Err-clause-err g c = held c.not_opened.result c.in-Err.ensures.kept
