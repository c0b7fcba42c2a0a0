use Rattle.sftp_handles.specs.Allowed as strictly
use Rattle.sftp_profile.specs.StrictAnswers.{told}
use Rattle.sftp_profile.specs.Permitted.{retold}
use Rattle.sftp_profile.proofs.Permissions.{first-outcome, second-result}
use Rattle.sftp_profile.proofs.judges.Judge.read.Goals as goal

pub returns-then-branch-clause-ok : goal.returns-then-branch-clause-ok
returns-then-branch-clause-ok c =
    let s = c.args.self.now in
    let ask = c.args.request.now.ask in
    let answer = c.args.reply.now.answer in
    first-outcome s (strictly.step s.session ask answer)
    (retold s.session ask (told s.profile s.session ask answer)) s c.judge_strictly.new.self
    c.in_ok-judge_strictly.field-0 c.if-branch.true c.in_ok-judge_strictly.ensures.ok

pub returns-clause-ok : goal.returns-clause-ok
returns-clause-ok c =
    let ask = c.args.request.now.ask in
    let answer = c.args.reply.now.answer in
    second-result (λ x. strictly.step x.session ask answer)
    (λ x. retold x.session ask (told x.profile x.session ask answer)) c.args.self.now c.judge_strictly.new.self
    c.retell.new.self c.retell.result c.in_ok-judge_strictly.field-0 c.if-branch.false
    c.in_ok-judge_strictly.ensures.ok c.retell.ensures.ok
