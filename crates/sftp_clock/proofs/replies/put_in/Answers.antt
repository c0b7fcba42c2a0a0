-- Attributes with times are short.
use Rattle.std.proofs.Common.{refl, ap, not, ◌∙◌}
use Rattle.sftp_clock.proofs.TimedItems.{attrs-spelled}
use Rattle.sftp_clock.proofs.replies.put_in.Goals as goal

pub returns-then-is_none-clause-spelled : goal.returns-then-is_none-clause-spelled
returns-then-is_none-clause-spelled c = λ id spelled.
    attrs-spelled id c.args.attrs.now _ refl c.pair.ensures.fits
    (ap not (c.is_none.ensures ∙ ap not c.if-is_none.true)) spelled
