use Rattle.std.proofs.Common.{length}
use Rattle.sftp_packets.specs.Reading.{pair_at, pairs_at}
use Rattle.sftp_packets.proofs.Readers.{ReadsOn}
use Rattle.sftp_codec.proofs.fields.pairs_to_end.Given as goal

abbrev pub invariant-pairs : goal.invariant-pairs
invariant-pairs l = ReadsOn pair_at l.pairs.items l.body.now (pairs_at l.fn.body.now)

abbrev pub decreases-pairs : goal.decreases-pairs
decreases-pairs l = length l.body.now
