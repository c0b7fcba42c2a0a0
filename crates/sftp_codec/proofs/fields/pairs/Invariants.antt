use Rattle.std.proofs.Common.{◌≡◌, ◌-◌}
use Rattle.sftp_packets.specs.Reading.{pair_at, many_at}
use Rattle.sftp_packets.proofs.Readers.{with_front}
use Rattle.sftp_codec.proofs.fields.pairs.Given as goal

abbrev pub invariant-pairs : goal.invariant-pairs
invariant-pairs l = with_front l.pairs.items (many_at pair_at (l.count - l.counter) l.body.now) ≡ many_at pair_at l.count l.fn.body.now
