-- One exchange more is moved; at the end the first one waits, or there is none.
use Rattle.std.proofs.Common.{◌≡◌, List, rules, subst, false}
use Rattle.sftp_together.specs.declared.exchanges.TimedExchange.{TimedExchange}
use Rattle.sftp_audit.specs.Trees.{starts_answered}
use Rattle.sftp_sets.specs.Collecting.{MovesFirst, exchanges_of}
use Rattle.sftp_sets.proofs.Holding.{moved_more, waits_first}
use Rattle.sftp_sets.proofs.collecting.settle.Goals as goal

pub settle-preserved : goal.settle-preserved
settle-preserved c =
    let same : c.reserve.new.self.items ≡ c.settle.done.items = search rules in
    moved_more c.args.done.now.items c.args.kept.now.items c.settle.done.items c.settle.kept.items
    c.move_first.new.done.items c.move_first.new.kept.items c.settle.invariant
    (subst (λ (xs : List TimedExchange). MovesFirst xs c.settle.kept.items c.move_first.new.done.items
    c.move_first.new.kept.items) same c.move_first.ensures)

pub returns-clause-first_waits : goal.returns-clause-first_waits
returns-clause-first_waits c =
    let none : starts_answered (exchanges_of c.settle.kept.items) ≡ false = search rules in
    waits_first c.settle.kept.items none
