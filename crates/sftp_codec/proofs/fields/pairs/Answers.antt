use Rattle.std.proofs.lemmas.Result.{err_from_is_err_and}
use Rattle.sftp_packets.specs.Reading.{pair_at, many_at}
use Rattle.sftp_packets.proofs.Readers.{many-goes_on, many-fails}
use Rattle.sftp_codec.proofs.fields.pairs.Goals as goal

pub returns-in_err-next : goal.returns-in_err-next
returns-in_err-next c =
    let p = err_from_is_err_and c.from_residual.result c.from_residual.ensures.1 in
    rw (p.1, p.2) (many-fails pair_at c.in_err-next.field-0.0 c.pairs.pairs.items c.args.count c.pairs.counter c.pairs.body.now c.pair.new.body.now (many_at pair_at c.args.count c.args.body.now.now) c.pairs-test.true c.in_err-next.ensures c.pairs.invariant)

pub pairs-preserved : goal.pairs-preserved
pairs-preserved c =
    rw c.in_ok-push.ensures.items (many-goes_on pair_at c.pairs.pairs.items c.args.count c.pairs.counter c.pairs.body.now c.in_ok-next.next c.pair.new.body.now (many_at pair_at c.args.count c.args.body.now.now) c.pairs-test.true c.in_ok-next.ensures c.pairs.invariant)
