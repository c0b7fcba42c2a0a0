use Rattle.std.proofs.Common.{◌≡◌, [], ◌∷◌}
use Rattle.sftp_text.specs.Formats.{show_each}
use Rattle.sftp_text.proofs.lists.put_more.Given as goal

abbrev pub invariant-items : goal.invariant-items
invariant-items g l =
    show_each g.I.Item.form (l.fn.separator ∷ []) l.left l.text.items l.bytes.now
    ≡ show_each g.I.Item.form (l.fn.separator ∷ []) l.fn.count l.fn.text.items l.fn.bytes.now

abbrev pub decreases-items : goal.decreases-items
decreases-items g l = l.left
