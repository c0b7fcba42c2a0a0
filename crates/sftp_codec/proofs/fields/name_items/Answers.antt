use Rattle.std.proofs.lemmas.Result.{err_from_is_err_and}
use Rattle.sftp_packets.specs.Reading.{name_item_at, many_at}
use Rattle.sftp_packets.proofs.Readers.{many-goes_on, many-fails}
use Rattle.sftp_codec.proofs.fields.name_items.Goals as goal

pub returns-in_err-next : goal.returns-in_err-next
returns-in_err-next c =
    let p = err_from_is_err_and c.from_residual.result c.from_residual.ensures.1 in
    rw (p.1, p.2) (many-fails name_item_at c.in_err-next.field-0.0 c.items.items.items c.args.count c.items.counter c.items.body.now c.name_item.new.body.now (many_at name_item_at c.args.count c.args.body.now.now) c.items-test.true c.in_err-next.ensures c.items.invariant)

pub items-preserved : goal.items-preserved
items-preserved c =
    rw c.in_ok-push.ensures.items (many-goes_on name_item_at c.items.items.items c.args.count c.items.counter c.items.body.now c.in_ok-next.next c.name_item.new.body.now (many_at name_item_at c.args.count c.args.body.now.now) c.items-test.true c.in_ok-next.ensures c.items.invariant)
