use Rattle.sftp_packets.specs.Reading.{pair_at, pairs_at}
use Rattle.sftp_packets.proofs.Readers.{ReadsOn-start, ReadsOn-goes_on}
use Rattle.sftp_packets.proofs.FieldLaws.{pair-shortens}
use Rattle.sftp_codec.proofs.fields.pairs_to_end.Goals as goal

pub pairs-init : goal.pairs-init
unfolding pairs_at
pairs-init c = rw c.new-pairs.ensures.items (ReadsOn-start pair_at c.args.body.now.now)

pub pairs-smaller : goal.pairs-smaller
pairs-smaller c = pair-shortens c.pairs.body.now c.in_ok-next.next c.pair.new.body.now c.in_ok-next.ensures

pub pairs-preserved : goal.pairs-preserved
pairs-preserved c =
    let shorter = pair-shortens c.pairs.body.now c.in_ok-next.next c.pair.new.body.now c.in_ok-next.ensures in
    rw c.in_ok-push.ensures.items (ReadsOn-goes_on pair_at c.pairs.pairs.items c.pairs.body.now c.in_ok-next.next c.pair.new.body.now (pairs_at c.args.body.now.now) shorter c.in_ok-next.ensures c.pairs.invariant)
