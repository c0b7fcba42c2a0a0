use Rattle.sftp_audit.proofs.Imports.{false, sym, refl, arith, ap, is_some, ◌∙◌, true≢false, slice_get_read}
use Rattle.sftp_audit.proofs.auditing.Places.{in_use, held, place_of-within, place_of-open, stored, indexed-replied}
use Rattle.sftp_audit.proofs.ledger.Ledger.answer.Goals as goal

pub returns-in_default-clause-refused : goal.returns-in_default-clause-refused
returns-in_default-clause-refused c = (
  refl,
  rw (← c.self.view_is)
      (in_use _ _ c.self.inside.first c.args.recorded.reply.id false c.self.invariant
      (ap is_some (sym c.in_default.ensures.value))),
)

pub unreachable-requires : goal.unreachable-requires
unreachable-requires c =
    let old = c.self.inside in
    let place = held old.exchanges.items old.unanswered.entries old.first c.args.recorded.reply.id c.in-Some.ordinal
    c.position_of-position.result c.self.invariant (sym c.in-Some.ensures.value) c.position_of-position.ensures in
    let within = place_of-within c.args.recorded.reply.id old.exchanges.items c.position_of-position.result place in
    true≢false (sym (c.in-None.ensures.variant.1 (omega (arith, within, old.exchanges.ok.0))))

pub invariant_of-self-2 : goal.invariant_of-self-2
invariant_of-self-2 c =
    let old = c.self.inside in
    let x = c.in-Some-get_mut.exchange.now in
    let place = held old.exchanges.items old.unanswered.entries old.first c.args.recorded.reply.id c.in-Some.ordinal
    c.position_of-position.result c.self.invariant (sym c.in-Some.ensures.value) c.position_of-position.ensures in
    let at = slice_get_read old.exchanges.items old.exchanges.len c.position_of-position.result x old.exchanges.ok.0
    (c.in-Some-get_mut.ensures.variant.0 refl) c.in-Some-get_mut.ensures.value in
    rw (stored c.args.recorded old.exchanges.items c.position_of-position.result x c.self.invariant.apart place at)
    (indexed-replied old.exchanges.items old.unanswered.entries c.swap_remove.new.self.entries old.first
    c.args.recorded c.self.invariant (λ id. c.in-Some.ensures.updates.0 id))

pub returns-clause-noted : goal.returns-clause-noted
returns-clause-noted c =
    let old = c.self.inside in
    let x = c.in-Some-get_mut.exchange.now in
    let place = held old.exchanges.items old.unanswered.entries old.first c.args.recorded.reply.id c.in-Some.ordinal
    c.position_of-position.result c.self.invariant (sym c.in-Some.ensures.value) c.position_of-position.ensures in
    let at = slice_get_read old.exchanges.items old.exchanges.len c.position_of-position.result x old.exchanges.ok.0
    (c.in-Some-get_mut.ensures.variant.0 refl) c.in-Some-get_mut.ensures.value in
    rw (← c.self.view_is)
    (stored c.args.recorded old.exchanges.items c.position_of-position.result x c.self.invariant.apart place at)

pub returns-clause-waited : goal.returns-clause-waited
returns-clause-waited c =
    let old = c.self.inside in
    let place = held old.exchanges.items old.unanswered.entries old.first c.args.recorded.reply.id c.in-Some.ordinal
    c.position_of-position.result c.self.invariant (sym c.in-Some.ensures.value) c.position_of-position.ensures in
    rw (← c.self.view_is)
    (sym (place_of-open c.args.recorded.reply.id old.exchanges.items) ∙ ap is_some place)
