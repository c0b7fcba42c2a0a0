use Rattle.std.proofs.Common.{sym, ap, subst, ◌∙◌}
use Rattle.std.specs.Prelude.{unwrap_or, IsTrue}
use Rattle.std.proofs.lemmas.Result.{IfOk-weaker}
use Rattle.sftp_profile.specs.Permitted.{IsJudged, IsStep}
use Rattle.sftp_profile.specs.Profiles.{keeps_requests}
use Rattle.sftp_profile.specs.State.{State}
use Rattle.sftp_profile.proofs.Permissions.{put-same, replaced-outcome}
use Rattle.sftp_profile.proofs.judges.Judge.step.Goals as goal

pub returns-then-keeps_requests : goal.returns-then-keeps_requests
returns-then-keeps_requests c =
    let s = c.args.self.now in
    let ask = c.args.request.now.ask in
    let answer = c.args.reply.now.answer in
    let keeps = subst (λ (state : State). IsTrue (keeps_requests state.profile)) c.self.view_is
    (sym c.keeps_requests.ensures ∙ c.if-keeps_requests.true) in
    IfOk-weaker c.judge.result (λ ok. IsJudged s ask answer ok c.judge.new.self)
    (λ ok. IsStep s ask answer ok c.judge.new.self)
    (λ ok found.
    replaced-outcome s c.judge.new.self ask ask answer ok
    (put-same s.profile s.session ask keeps) found) c.judge.ensures

pub returns-in_default : goal.returns-in_default
returns-in_default c =
    let s = c.args.self.now in
    let ask = c.args.request.now.ask in
    let answer = c.args.reply.now.answer in
    let end = c.judge-in_default.new.self in
    IfOk-weaker c.judge-in_default.result (λ ok. IsJudged s ask answer ok end) (λ ok. IsStep s ask answer ok end)
    (λ ok found.
    replaced-outcome s end ask ask answer ok
    (ap (λ o. unwrap_or o ask) (sym c.in_ok-ask.ensures ∙ c.in_default.is)) found) c.judge-in_default.ensures

pub returns : goal.returns
returns c =
    let s = c.args.self.now in
    let ask = c.args.request.now.ask in
    let answer = c.args.reply.now.answer in
    let end = c.judge-permitted.new.self in
    IfOk-weaker c.judge-permitted.result (λ ok. IsJudged s c.in-Some.ask answer ok end)
    (λ ok. IsStep s ask answer ok end)
    (λ ok found.
    replaced-outcome s end ask c.in-Some.ask answer ok
    (ap (λ o. unwrap_or o ask) (sym c.in_ok-ask.ensures ∙ c.in-Some.is)) found) c.judge-permitted.ensures
