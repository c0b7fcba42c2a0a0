use Rattle.std.proofs.Common.{◌≡◌, ◌+◌, [], ◌∷◌, length}
use Rattle.sftp_text.specs.Formats.{read_each}
use Rattle.sftp_text.proofs.lists.read_more.Given as goal

abbrev pub invariant-items : goal.invariant-items
invariant-items g l = record {
  same : read_each g.I.Item.form (l.fn.separator ∷ []) l.most l.count l.bytes.items l.line.now
      ≡ read_each g.I.Item.form (l.fn.separator ∷ []) (length l.fn.line.now) 1 l.fn.bytes.items l.fn.line.now;
  counted : l.count + l.most ≡ l.initial.most + 1;
}

abbrev pub decreases-items : goal.decreases-items
decreases-items g l = l.most
