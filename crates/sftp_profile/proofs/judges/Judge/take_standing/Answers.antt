use Rattle.std.proofs.Common.{sym, ◌∙◌}
use Rattle.std.proofs.lemmas.Result.{IfOk-weaker}
use Rattle.sftp_profile.specs.DirectoryHandles.{directory_of}
use Rattle.sftp_profile.specs.Permitted.{standing_for}
use Rattle.sftp_profile.specs.Permitted.{IsPermitted, IsStanding}
use Rattle.sftp_profile.proofs.DirectoryLists.{off-outcome, on-outcome, standing-outcome, no-standing}
use Rattle.sftp_profile.proofs.judges.Judge.take_standing.Goals as goal

pub returns-then-not-opens_directories : goal.returns-then-not-opens_directories
returns-then-not-opens_directories c =
    off-outcome c.args.self.now c.args.self.now.profile.open_dir _
    (sym c.opens_directories.ensures ∙ c.if-not-opens_directories.true)

pub returns-in_default : goal.returns-in_default
returns-in_default c =
    let s = c.args.self.now in
    let ask = c.args.ask.now in
    let answer = c.args.reply.now.answer in
    on-outcome s s s.profile.open_dir _ _ (sym c.opens_directories.ensures ∙ c.if-not-opens_directories.false)
    (no-standing s (standing_for s.profile s.session (directory_of s.directories ask) ask answer) answer
    (sym c.in_ok-ask.ensures ∙ c.in_default.is))

pub returns : goal.returns
returns c =
    let s = c.args.self.now in
    let ask = c.args.ask.now in
    let answer = c.args.reply.now.answer in
    let end = c.permit-permitted.new.self in
    IfOk-weaker c.permit-permitted.result (λ ok. IsPermitted s c.in-Some.ask answer ok end)
    (λ ok. IsStanding s ask answer ok end)
    (λ ok found.
    on-outcome s end s.profile.open_dir _ ok (sym c.opens_directories.ensures ∙ c.if-not-opens_directories.false)
    (standing-outcome s end (standing_for s.profile s.session (directory_of s.directories ask) ask answer) c.in-Some.ask answer ok
    (sym c.in_ok-ask.ensures ∙ c.in-Some.is) found))
    c.permit-permitted.ensures.ok
