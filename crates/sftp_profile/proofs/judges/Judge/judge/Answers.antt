use Rattle.std.proofs.Common.{sym, ◌∙◌}
use Rattle.std.proofs.lemmas.Result.{IfOk-weaker}
use Rattle.sftp_profile.specs.Permitted.{IsPermitted, IsNoted, IsJudged}
use Rattle.sftp_profile.proofs.DirectoryLists.{stateless-outcome, noted-outcome}
use Rattle.sftp_profile.proofs.judges.Judge.judge.Goals as goal

pub returns-then-is_stateless : goal.returns-then-is_stateless
returns-then-is_stateless c =
    let s = c.args.self.now in
    let ask = c.args.request.now.ask in
    let answer = c.args.reply.now.answer in
    IfOk-weaker c.permit.result (λ ok. IsPermitted s ask answer ok c.permit.new.self)
    (λ ok. IsJudged s ask answer ok c.permit.new.self)
    (λ ok found.
    stateless-outcome s c.permit.new.self ask answer ok (sym c.is_stateless.ensures ∙ c.if-is_stateless.true) found)
    c.permit.ensures.ok

pub returns : goal.returns
returns c =
    let s = c.args.self.now in
    let ask = c.args.request.now.ask in
    let answer = c.args.reply.now.answer in
    let end = c.judge_and_note.new.self in
    IfOk-weaker c.judge_and_note.result (λ ok. IsNoted s ask answer c.in_ok-there.there ok end)
    (λ ok. IsJudged s ask answer ok end)
    (λ ok found.
    noted-outcome s end ask answer c.in_ok-there.there ok (sym c.is_stateless.ensures ∙ c.if-is_stateless.false)
    c.in_ok-there.ensures found)
    c.judge_and_note.ensures
