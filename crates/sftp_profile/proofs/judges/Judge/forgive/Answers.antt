use Rattle.std.proofs.Common.{sym, ◌∙◌, true}
use Rattle.std.proofs.lemmas.Result.{IfOk-weaker}
use Rattle.sftp_profile.specs.StrictAnswers.{told}
use Rattle.sftp_profile.specs.Permitted.{first_of, under, taken_for, retold}
use Rattle.sftp_profile.specs.Permitted.{Outcome, IsForgiven}
use Rattle.sftp_profile.proofs.Permissions.{passes-outcome, unpassed-outcome, first-outcome, second-result}
use Rattle.sftp_profile.proofs.judges.Judge.forgive.Goals as goal

pub returns-then-branch-clause-ok : goal.returns-then-branch-clause-ok
returns-then-branch-clause-ok c =
    passes-outcome c.args.self.now c.args.request.now.ask c.args.reply.now.answer
    (sym c.in_ok-forgives.ensures ∙ c.if-branch.true)

pub returns-then-branch-2-clause-ok : goal.returns-then-branch-2-clause-ok
returns-then-branch-2-clause-ok c =
    let s = c.args.self.now in
    let ask = c.args.request.now.ask in
    let answer = c.args.reply.now.answer in
    unpassed-outcome s c.retell.new.self ask answer true (sym c.in_ok-forgives.ensures ∙ c.if-branch.false)
    (first-outcome s (retold s.session ask (told s.profile s.session ask answer))
    (taken_for s.profile s.session ask answer) s c.retell.new.self c.in_ok-retell.field-0 c.if-branch-2.true
    c.in_ok-retell.ensures.ok)

pub returns-clause-ok : goal.returns-clause-ok
returns-clause-ok c =
    let s = c.args.self.now in
    let ask = c.args.request.now.ask in
    let answer = c.args.reply.now.answer in
    IfOk-weaker c.take_for.result
    (λ ok.
    Outcome
    (under s
    (first_of (retold s.session ask (told s.profile s.session ask answer))
    (taken_for s.profile s.session ask answer))) s ok c.take_for.new.self)
    (λ ok. IsForgiven s ask answer ok c.take_for.new.self)
    (λ ok found.
    unpassed-outcome s c.take_for.new.self ask answer ok (sym c.in_ok-forgives.ensures ∙ c.if-branch.false) found)
    (second-result (λ x. retold x.session ask (told x.profile x.session ask answer))
    (λ x. taken_for x.profile x.session ask answer) s c.retell.new.self c.take_for.new.self c.take_for.result
    c.in_ok-retell.field-0 c.if-branch-2.false c.in_ok-retell.ensures.ok c.take_for.ensures.ok)
