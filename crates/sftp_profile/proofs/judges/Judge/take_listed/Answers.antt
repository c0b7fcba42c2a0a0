use Rattle.std.proofs.Common.{sym, ap, ◌∙◌}
use Rattle.std.specs.Prelude.{unwrap_or}
use Rattle.std.specs.Option.{option_map}
use Rattle.std.proofs.lemmas.Result.{IfOk-weaker}
use Rattle.sftp_profile.specs.StrictAnswers.{told}
use Rattle.sftp_profile.specs.DirectoryHandles.{directory_of}
use Rattle.sftp_profile.specs.DirectoryHandles.{due_items}
use Rattle.sftp_profile.specs.Permitted.{IsListed, IsGiven}
use Rattle.sftp_profile.proofs.DirectoryLists.{off-outcome, on-outcome, no-given, given-outcome}
use Rattle.sftp_profile.proofs.judges.Judge.take_listed.Goals as goal

pub returns-then-not-lists_changes : goal.returns-then-not-lists_changes
returns-then-not-lists_changes c =
    off-outcome c.args.self.now c.args.self.now.profile.listing _
    (sym c.lists_changes.ensures ∙ c.if-not-lists_changes.true)

pub returns-in_default : goal.returns-in_default
returns-in_default c =
    let s = c.args.self.now in
    let ask = c.args.request.now.ask in
    let answer = c.args.reply.now.answer in
    on-outcome s s s.profile.listing _ _ (sym c.lists_changes.ensures ∙ c.if-not-lists_changes.false)
    (no-given s ask
    (due_items s.profile s.session (directory_of s.directories ask) ask
    (unwrap_or (told s.profile s.session ask answer) answer))
    (sym c.in_ok-items.ensures ∙ ap (option_map (λ v. v.items)) c.in_default.is))

pub returns : goal.returns
returns c =
    let s = c.args.self.now in
    let ask = c.args.request.now.ask in
    let answer = c.args.reply.now.answer in
    let end = c.give.new.self in
    IfOk-weaker c.give.result (λ ok. IsGiven s ask c.in-Some.items.items ok end)
    (λ ok. IsListed s ask answer ok end)
    (λ ok found.
    on-outcome s end s.profile.listing _ ok (sym c.lists_changes.ensures ∙ c.if-not-lists_changes.false)
    (given-outcome s end ask
    (due_items s.profile s.session (directory_of s.directories ask) ask
    (unwrap_or (told s.profile s.session ask answer) answer))
    c.in-Some.items.items ok
    (sym c.in_ok-items.ensures ∙ ap (option_map (λ v. v.items)) c.in-Some.is) found))
    c.give.ensures
