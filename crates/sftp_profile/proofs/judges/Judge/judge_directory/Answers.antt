use Rattle.std.proofs.Common.{sym, ◌∙◌, true, None}
use Rattle.std.specs.Prelude.{if◌then◌else◌}
use Rattle.std.proofs.lemmas.Result.{IfOk-weaker}
use Rattle.sftp_profile.specs.DirectoryHandles.{directory_of, passes_directory}
use Rattle.sftp_profile.specs.Permitted.{first_of, taken_as, listed_as, standing_for, under, by_directory}
use Rattle.sftp_profile.specs.Permitted.{Outcome, IsByDirectory}
use Rattle.sftp_profile.proofs.Permissions.{first-outcome, second-result}
use Rattle.sftp_profile.proofs.DirectoryLists.{forgiven-outcome, unforgiven-outcome}
use Rattle.sftp_profile.proofs.judges.Judge.judge_directory.Goals as goal

pub returns-then-passes_directory : goal.returns-then-passes_directory
unfolding by_directory
returns-then-passes_directory c =
    let s = c.args.self.now in
    let ask = c.args.request.now.ask in
    let answer = c.args.reply.now.answer in
    forgiven-outcome s (passes_directory s.profile (directory_of s.directories ask) ask answer) _
    (sym c.passes_directory.ensures ∙ c.if-passes_directory.true)

pub returns-then-branch : goal.returns-then-branch
unfolding by_directory
returns-then-branch c =
    let s = c.args.self.now in
    let ask = c.args.request.now.ask in
    let answer = c.args.reply.now.answer in
    unforgiven-outcome s c.take_standing.new.self
    (passes_directory s.profile (directory_of s.directories ask) ask answer) _ true
    (sym c.passes_directory.ensures ∙ c.if-passes_directory.false)
    (first-outcome s _ _ s c.take_standing.new.self c.in_ok-take_standing.field-0 c.if-branch.true
    c.in_ok-take_standing.ensures)

pub returns : goal.returns
unfolding by_directory
returns c =
    let s = c.args.self.now in
    let ask = c.args.request.now.ask in
    let answer = c.args.reply.now.answer in
    let end = c.take_listed.new.self in
    IfOk-weaker c.take_listed.result
    (λ ok.
    Outcome
    (under s
    (first_of
    (if s.profile.open_dir
    then taken_as s.profile s.session (standing_for s.profile s.session (directory_of s.directories ask) ask answer) answer
    else None)
    (if s.profile.listing then listed_as s.profile s.session (directory_of s.directories ask) ask answer else None))) s
    ok end)
    (λ ok. IsByDirectory s ask answer ok end)
    (λ ok found.
    unforgiven-outcome s end (passes_directory s.profile (directory_of s.directories ask) ask answer) _ ok
    (sym c.passes_directory.ensures ∙ c.if-passes_directory.false) found)
    (second-result
    (λ x.
    if x.profile.open_dir
    then taken_as x.profile x.session (standing_for x.profile x.session (directory_of x.directories ask) ask answer) answer
    else None)
    (λ x. if x.profile.listing then listed_as x.profile x.session (directory_of x.directories ask) ask answer else None)
    s c.take_standing.new.self end c.take_listed.result c.in_ok-take_standing.field-0 c.if-branch.false
    c.in_ok-take_standing.ensures c.take_listed.ensures)
