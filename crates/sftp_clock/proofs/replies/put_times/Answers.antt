-- Each name keeps all but its times.
use Rattle.std.proofs.Common.{ap, map, length, sym, subst, ◌∙◌}
use Rattle.std.proofs.lemmas.List.{with_items_is}
use Rattle.std.specs.List.{AllByRecursion}
use Rattle.sftp_packets.specs.Spelling.{FitsNameItem}
use Rattle.sftp_clock.specs.Timed.{untimed, IsTimed}
use Rattle.sftp_clock.proofs.TimedItems.{untimed-taken, timed-taken, rest-taken, untimed-all, timed-all, untimed-length}
use Rattle.sftp_clock.proofs.TimedItems.{fits-at}
use Rattle.sftp_clock.proofs.replies.put_times.Goals as goal

pub loop-item-preserved : goal.loop-item-preserved
loop-item-preserved c =
    let before = c.deref_mut-item-items.result.now in
    let at = c.loop-item in
    let now = at.item-items in
    let within = c.loop-item-test.true in
    record {
      same =
          untimed-taken before now at.item-index c.item-item.result c.put_next.new.item within at.invariant.same
          at.invariant.rest c.put_next.ensures.same;
      timed =
          λ fit. timed-taken before now at.item-index c.put_next.new.item within at.invariant.rest
          (at.invariant.timed fit)
          (c.put_next.ensures.timed
          (fits-at before now at.item-index c.item-item.result fit within at.invariant.rest));
      rest = rest-taken before now at.item-index c.put_next.new.item at.invariant.rest;
    }

pub returns-clause-same : goal.returns-clause-same
returns-clause-same c =
    let before = c.deref_mut-item-items.result.now in
    let at = c.loop-item in
    let all =
    untimed-all before at.item-items at.item-index c.loop-item-test.false at.invariant.same at.invariant.rest in
    ap (map untimed) (with_items_is c.args.items.now at.item-items
    (untimed-length before at.item-items all
    ∙ (ap length c.deref_mut-item-items.ensures.value ∙ sym c.args.items.now.ok.0)))
    ∙ (all ∙ ap (map untimed) c.deref_mut-item-items.ensures.value)

pub returns-clause-timed : goal.returns-clause-timed
returns-clause-timed c = λ fit.
    let before = c.deref_mut-item-items.result.now in
    let at = c.loop-item in
    let all =
    untimed-all before at.item-items at.item-index c.loop-item-test.false at.invariant.same at.invariant.rest in
    subst (AllByRecursion IsTimed) (sym (with_items_is c.args.items.now at.item-items
    (untimed-length before at.item-items all
    ∙ (ap length c.deref_mut-item-items.ensures.value ∙ sym c.args.items.now.ok.0))))
    (timed-all before at.item-items at.item-index c.loop-item-test.false
    (at.invariant.timed (subst (AllByRecursion FitsNameItem) (sym c.deref_mut-item-items.ensures.value) fit))
    at.invariant.rest)
