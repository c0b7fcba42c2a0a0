-- Each name keeps what is not free, and gets its line.
use Rattle.std.proofs.Common.{ap, map, length, sym, subst, ◌∙◌}
use Rattle.std.proofs.lemmas.List.{with_items_is}
use Rattle.std.specs.List.{AllByRecursion}
use Rattle.sftp_packets.specs.Spelling.{FitsNameItem}
use Rattle.sftp_bare.specs.Bare.{bare_item}
use Rattle.sftp_vary.specs.Lines.{IsLined}
use Rattle.sftp_vary.proofs.LineLaws.{bare-taken, lined-taken, rest-taken, bare-all, lined-all, bare-length, fits-at}
use Rattle.sftp_vary.proofs.lined.put_lines.Goals as goal

pub loop-item-preserved : goal.loop-item-preserved
loop-item-preserved c =
    let before = c.deref_mut-item-items.result.now in
    let at = c.loop-item in
    let now = at.item-items in
    let within = c.loop-item-test.true in
    record {
      same =
          bare-taken before now at.item-index c.item-item.result c.put_line.new.item within at.invariant.same
          at.invariant.rest c.put_line.ensures.same;
      lined =
          λ fit. lined-taken before now at.item-index c.put_line.new.item within at.invariant.rest
          (at.invariant.lined fit)
          (c.put_line.ensures.lined (fits-at before now at.item-index c.item-item.result fit within at.invariant.rest));
      rest = rest-taken before now at.item-index c.put_line.new.item at.invariant.rest;
    }

pub returns-clause-same : goal.returns-clause-same
returns-clause-same c =
    let before = c.deref_mut-item-items.result.now in
    let at = c.loop-item in
    let all = bare-all before at.item-items at.item-index c.loop-item-test.false at.invariant.same at.invariant.rest in
    ap (map bare_item) (with_items_is c.args.items.now at.item-items
    (bare-length before at.item-items all ∙ (ap length c.deref_mut-item-items.ensures.value ∙ sym c.args.items.now.ok.0)))
    ∙ (all ∙ ap (map bare_item) c.deref_mut-item-items.ensures.value)

pub returns-clause-lined : goal.returns-clause-lined
returns-clause-lined c = λ fit.
    let before = c.deref_mut-item-items.result.now in
    let at = c.loop-item in
    let all = bare-all before at.item-items at.item-index c.loop-item-test.false at.invariant.same at.invariant.rest in
    subst (AllByRecursion IsLined) (sym (with_items_is c.args.items.now at.item-items
    (bare-length before at.item-items all
    ∙ (ap length c.deref_mut-item-items.ensures.value ∙ sym c.args.items.now.ok.0))))
    (lined-all before at.item-items at.item-index c.loop-item-test.false
    (at.invariant.lined (subst (AllByRecursion FitsNameItem) (sym c.deref_mut-item-items.ensures.value) fit))
    at.invariant.rest)
