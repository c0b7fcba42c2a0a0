use Rattle.std.proofs.Common.{◌≡◌, ◌-◌}
use Rattle.sftp_packets.specs.Reading.{name_item_at, many_at}
use Rattle.sftp_packets.proofs.Readers.{with_front}
use Rattle.sftp_codec.proofs.fields.name_items.Given as goal

abbrev pub invariant-items : goal.invariant-items
invariant-items l = with_front l.items.items (many_at name_item_at (l.count - l.counter) l.body.now) ≡ many_at name_item_at l.count l.fn.body.now
