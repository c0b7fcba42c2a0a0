-- Each request gets its place, or the order stops there.
use Rattle.std.proofs.Common.{rules, ◌≡◌, ◌++◌, ◌∷◌, [], ap, sym, subst, ◌∙◌, refl, max, ℕ, Option, get_or}
use Rattle.std.proofs.lemmas.Result.{err_from_is_err_and}
use Rattle.sftp_together.specs.declared.exchanges.TimedExchange.{TimedExchange}
use Rattle.sftp_together.specs.Checks.{Takes}
use Rattle.sftp_together.proofs.Orders.{nothing-placed, none-latest, latest-push, next-placed, stops-at, misplaced}
use Rattle.sftp_together.proofs.together.place_all.Goals as goal

pub places-init : goal.places-init
places-init g c = record {
  placed = [];
  right = nothing-placed g.J.Judges.allowed c.args.placing.now.state c.args.placing.now.tolerance
      (g.S.Sessions.ahead c.args.sessions.now);
  latest = c.requires.fresh ∙ none-latest;
  alone = refl;
  tolerance = refl;
}

pub places-preserved : goal.places-preserved
places-preserved g c =
    let at = c.places.invariant in
    let exchange = c.in-Ok-Some.exchange in
    let number = get_or c.args.order.now c.places.place 0 in
    let named : c.from.result ≡ number = search rules in
    record {
      placed = at.placed ++ (number, exchange) ∷ [];
      right =
          next-placed g.J.Judges.allowed c.args.placing.now.state c.args.placing.now.tolerance
          (g.S.Sessions.ahead c.args.sessions.now) c.args.order.now c.places.place at.placed
          (g.S.Sessions.ahead c.places.sessions) c.places-test.true c.places.placing at.right
          (at.alone ∙ c.requires.alone) at.tolerance at.latest (g.S.Sessions.ahead c.next_of.new.self)
          c.put.new.self.state exchange
          (subst (λ (o : Option TimedExchange). Takes number (g.S.Sessions.ahead c.places.sessions) o
          (g.S.Sessions.ahead c.next_of.new.self)) c.in-Ok-Some.field-0-is
          (subst (λ (n : ℕ). Takes n (g.S.Sessions.ahead c.places.sessions) c.in-Ok-Some.field-0
          (g.S.Sessions.ahead c.next_of.new.self)) named c.in-Ok-Some.ensures))
          c.in_ok-put-in-Ok-Some.ensures.in_time c.in_ok-put-in-Ok-Some.ensures.allowed;
      latest =
          c.in_ok-put-in-Ok-Some.ensures.latest
          ∙ (ap (λ (n : ℕ). max n exchange.asked.time) at.latest ∙ sym (latest-push number exchange at.placed));
      alone = c.in_ok-put-in-Ok-Some.ensures.alone ∙ at.alone;
      tolerance = c.in_ok-put-in-Ok-Some.ensures.tolerance ∙ at.tolerance;
    }

pub returns-in-Ok-None-clause-first : goal.returns-in-Ok-None-clause-first
returns-in-Ok-None-clause-first g c =
    let at = c.places.invariant in
    let named : c.from.result ≡ get_or c.args.order.now c.places.place 0 = search rules in
    let none =
    subst (λ (o : Option TimedExchange). Takes (get_or c.args.order.now c.places.place 0)
    (g.S.Sessions.ahead c.places.sessions) o (g.S.Sessions.ahead c.next_of.new.self)) c.in-Ok-None.field-0-is
    (subst (λ (n : ℕ). Takes n (g.S.Sessions.ahead c.places.sessions) c.in-Ok-None.field-0
    (g.S.Sessions.ahead c.next_of.new.self)) named c.in-Ok-None.ensures) in
    stops-at g.J.Judges.allowed c.args.placing.now.state c.args.placing.now.tolerance
    (g.S.Sessions.ahead c.args.sessions.now) c.args.order.now c.places.place at.placed
    (g.S.Sessions.ahead c.places.sessions) c.places-test.true c.places.placing at.right (at.alone ∙ c.requires.alone)
    at.tolerance at.latest [] none.0

pub returns-in_err-put-in-Ok-Some-clause-first : goal.returns-in_err-put-in-Ok-Some-clause-first
returns-in_err-put-in-Ok-Some-clause-first g c =
    let at = c.places.invariant in
    let named : c.from.result ≡ get_or c.args.order.now c.places.place 0 = search rules in
    let p = err_from_is_err_and c.from_residual.result c.from_residual.ensures.1 in
    rw (p.1, p.2)
    (misplaced g.J.Judges.allowed c.args.placing.now.state c.args.placing.now.tolerance
    (g.S.Sessions.ahead c.args.sessions.now) c.args.order.now c.places.place at.placed
    (g.S.Sessions.ahead c.places.sessions) c.places-test.true c.places.placing at.right (at.alone ∙ c.requires.alone)
    at.tolerance at.latest (g.S.Sessions.ahead c.next_of.new.self) c.in-Ok-Some.exchange
    c.in_err-put-in-Ok-Some.field-0.0
    (subst (λ (o : Option TimedExchange). Takes (get_or c.args.order.now c.places.place 0)
    (g.S.Sessions.ahead c.places.sessions) o (g.S.Sessions.ahead c.next_of.new.self)) c.in-Ok-Some.field-0-is
    (subst (λ (n : ℕ). Takes n (g.S.Sessions.ahead c.places.sessions) c.in-Ok-Some.field-0
    (g.S.Sessions.ahead c.next_of.new.self)) named c.in-Ok-Some.ensures))
    c.in_err-put-in-Ok-Some.ensures.refused)
