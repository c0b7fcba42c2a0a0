use Rattle.std.proofs.Common.{sym, ap, ◌∙◌, ◌==◌, length}
use Rattle.std.proofs.lemmas.Result.{IfOk-weaker}
use Rattle.sftp_packets.specs.declared.replies.Answer.TheVariants as replies
use Rattle.sftp_profile.specs.Permitted.{IsStrict, IsGiven}
use Rattle.sftp_profile.proofs.DirectoryLists.{none-given, some-given}
use Rattle.sftp_profile.proofs.judges.Judge.give.Goals as goal

pub returns-then-are_none : goal.returns-then-are_none
returns-then-are_none c =
    none-given c.args.self.now c.args.request.now.ask c.args.items.items
    (ap (λ l. length l == 0) (sym c.as_slice.ensures.value) ∙ (sym c.are_none.ensures ∙ c.if-are_none.true))

pub returns : goal.returns
returns c =
    let s = c.args.self.now in
    let ask = c.args.request.now.ask in
    let end = c.give_some.new.self in
    IfOk-weaker c.give_some.result (λ ok. IsStrict s ask (replies.Name c.args.items.items) ok end)
    (λ ok. IsGiven s ask c.args.items.items ok end)
    (λ ok found.
    some-given s end ask c.args.items.items ok
    (ap (λ l. length l == 0) (sym c.as_slice.ensures.value) ∙ (sym c.are_none.ensures ∙ c.if-are_none.false)) found)
    c.give_some.ensures
