use Rattle.std.proofs.Common.{sym, ◌∙◌, true}
use Rattle.std.proofs.lemmas.Result.{IfOk-weaker}
use Rattle.sftp_profile.specs.DirectoryHandles.{directory_of}
use Rattle.sftp_profile.specs.Permitted.{first_of, permitted, by_directory, under}
use Rattle.sftp_profile.specs.Permitted.{Outcome, IsMet}
use Rattle.sftp_profile.proofs.Permissions.{first-outcome, second-result}
use Rattle.sftp_profile.proofs.DirectoryLists.{barred-outcome, unbarred-outcome}
use Rattle.sftp_profile.proofs.judges.Judge.meet.Goals as goal

pub returns-then-is_barred : goal.returns-then-is_barred
returns-then-is_barred c =
    rw c.refuses_kind.ensures
    (barred-outcome c.args.self.now c.args.request.now.ask c.args.reply.now.answer
    (sym c.is_barred.ensures ∙ c.if-is_barred.true))

pub returns-then-branch : goal.returns-then-branch
returns-then-branch c =
    let s = c.args.self.now in
    let ask = c.args.request.now.ask in
    let answer = c.args.reply.now.answer in
    unbarred-outcome s c.permit.new.self ask answer true (sym c.is_barred.ensures ∙ c.if-is_barred.false)
    (first-outcome s (permitted s.profile s.session ask answer)
    (by_directory s.profile s.session (directory_of s.directories ask) ask answer) s c.permit.new.self
    c.in_ok-permit.field-0 c.if-branch.true c.in_ok-permit.ensures.ok)

pub returns : goal.returns
returns c =
    let s = c.args.self.now in
    let ask = c.args.request.now.ask in
    let answer = c.args.reply.now.answer in
    let end = c.judge_directory.new.self in
    IfOk-weaker c.judge_directory.result
    (λ ok.
    Outcome
    (under s
    (first_of (permitted s.profile s.session ask answer)
    (by_directory s.profile s.session (directory_of s.directories ask) ask answer))) s ok end)
    (λ ok. IsMet s ask answer ok end)
    (λ ok found. unbarred-outcome s end ask answer ok (sym c.is_barred.ensures ∙ c.if-is_barred.false) found)
    (second-result (λ x. permitted x.profile x.session ask answer)
    (λ x. by_directory x.profile x.session (directory_of x.directories ask) ask answer) s c.permit.new.self end
    c.judge_directory.result c.in_ok-permit.field-0 c.if-branch.false c.in_ok-permit.ensures.ok
    c.judge_directory.ensures)
