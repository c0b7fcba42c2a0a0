-- A set of one session: the only order is that in which it asked, and what explains it is what explains the session.
use Rattle.std.proofs.Common.{◌≡◌, ◌==◌, ℕ, zero, suc, ◌+◌, ◌≤◌, Bool, true, false, List, [], ◌∷◌, refl, sym, ap, ◌∙◌, subst}
use Rattle.std.proofs.Common.{cond, map, arith, Option, Some, None}
use Rattle.std.proofs.lemmas.Bool.{ltb-false, ne_eqb}
use Rattle.std.proofs.lemmas.Option.{same_Some}
use Rattle.std.specs.Option.{option_map}
use Rattle.std.specs.List.{AllByRecursion}
use Rattle.sftp_packets.specs.declared.packets.Request.{Request}
use Rattle.sftp_packets.specs.declared.packets.Reply.{Reply}
use Rattle.sftp_streams.specs.Streams.{one_more}
use Rattle.sftp_transcript.specs.declared.events.Event.TheVariants.{Asked, Replied}
use Rattle.sftp_transcript.specs.Explained.{next_reply, exchanges_of, leading_pairs, StepOf, Run, Explained}
use Rattle.sftp_together.specs.declared.exchanges.Stamp.{Stamp}
use Rattle.sftp_together.specs.declared.exchanges.TimedExchange.{TimedExchange}
use Rattle.sftp_together.specs.Sets.{Placed, part_of, IsOrderOf, comes_before, KeepsClock, pairs_in}
use Rattle.sftp_together.specs.Sets.{TimedEvent, event_of, next_timed, answered_first, timed_from, timed_exchanges}
use Rattle.sftp_together.specs.Sets.{AreExplained, RisesFrom, Rises, as_asked}
use Rattle.sftp_together.proofs.Orders.{not-less}
use Rattle.sftp_together.proofs.Refuting.{part-here, part-away, head-is, tail-is}

-- ==== The pairs of its run.

next-recorded : (id number : ℕ) (events : List TimedEvent)
    → option_map (λ (r : Reply × Stamp). r.0) (next_timed id number events) ≡ next_reply id (map event_of events)
unfolding next_timed next_reply
next-recorded id number [] = refl
next-recorded id number ((Asked request, time) ∷ events) = next-recorded id (one_more number) events
next-recorded id number ((Replied reply, time) ∷ events) =
    by (reply.id == id) (next-recorded id (one_more number) events)
  where
    by : (b : Bool)
        → option_map (λ (r : Reply × Stamp). r.0) (next_timed id (one_more number) events)
        ≡ next_reply id (map event_of events)
        → option_map (λ (r : Reply × Stamp). r.0)
        (cond b (Some (reply, record { number = number; time = time })) (next_timed id (one_more number) events))
        ≡ cond b (Some reply) (next_reply id (map event_of events))
    by true later = refl
    by false later = later

abbrev pair_of : TimedExchange → Request × Reply
pair_of exchange = (exchange.request, exchange.reply)

pairs-alone : (number : ℕ) (events : List TimedEvent)
    → map pair_of (timed_from number events) ≡ leading_pairs (exchanges_of (map event_of events))
unfolding timed_from exchanges_of leading_pairs
pairs-alone number [] = refl
pairs-alone number ((Asked request, time) ∷ events) =
    by (next_timed request.id (one_more number) events) (next_reply request.id (map event_of events))
    (next-recorded request.id (one_more number) events) (pairs-alone (one_more number) events)
  where
    by : (o : Option (Reply × Stamp)) (p : Option Reply) → option_map (λ (r : Reply × Stamp). r.0) o ≡ p
        → map pair_of (timed_from (one_more number) events) ≡ leading_pairs (exchanges_of (map event_of events))
        → map pair_of (answered_first request (record { number = number; time = time }) o
        (timed_from (one_more number) events))
        ≡ leading_pairs ((request, p) ∷ exchanges_of (map event_of events))
    by None None is later = refl
    by None (Some reply) is later = absurd cc
    by (Some recorded) None is later = absurd cc
    by (Some recorded) (Some reply) is later = λ i. (request, same_Some recorded.0 reply is i) ∷ later i
pairs-alone number ((Replied reply, time) ∷ events) = pairs-alone (one_more number) events

pairs-asked : (exchanges : List TimedExchange) → pairs_in true (as_asked exchanges) ≡ map pair_of exchanges
pairs-asked [] = refl
pairs-asked (exchange ∷ exchanges) = ap (λ (ps : List (Request × Reply)). pair_of exchange ∷ ps) (pairs-asked exchanges)

-- ==== Its order.

pub only-order : (order : List Placed) (exchanges : List TimedExchange) → IsOrderOf (exchanges ∷ []) order
    → order ≡ as_asked exchanges
unfolding part_of
only-order [] exchanges each = ap as_asked (let none : [] ≡ exchanges = each 0 in none)
only-order ((zero, x) ∷ order) [] each = absurd (let none : x ∷ part_of 0 order ≡ [] = each 0 in cc)
only-order ((zero, x) ∷ order) (y ∷ exchanges) each =
    let at : x ∷ part_of 0 order ≡ y ∷ exchanges = each 0 in
    let later : IsOrderOf (exchanges ∷ []) order =
    elim [ zero ↦ tail-is x y (part_of 0 order) exchanges at | suc n ↦ sym (part-away (suc n) 0 x order (ne_eqb 0 (suc n) (λ e. omega (arith, e)))) ∙ each (suc n) ] in
    λ i. (zero, head-is x y (part_of 0 order) exchanges at i) ∷ only-order order exchanges later i
only-order ((suc n, x) ∷ order) exchanges each =
    absurd (let some : x ∷ part_of (suc n) order ≡ [] = sym (part-here (suc n) x order) ∙ each (suc n) in cc)

asked-is : (exchanges : List TimedExchange) → IsOrderOf (exchanges ∷ []) (as_asked exchanges)
unfolding part_of
asked-is exchanges zero = mine exchanges
  where
    mine : (exchanges : List TimedExchange) → part_of 0 (as_asked exchanges) ≡ exchanges
    mine [] = refl
    mine (x ∷ exchanges) = ap (λ (es : List TimedExchange). x ∷ es) (mine exchanges)
asked-is exchanges (suc n) = others exchanges
  where
    others : (exchanges : List TimedExchange) → part_of (suc n) (as_asked exchanges) ≡ []
    others [] = refl
    others (x ∷ exchanges) =
        part-away (suc n) 0 x (as_asked exchanges) (ne_eqb 0 (suc n) (λ e. omega (arith, e))) ∙ others exchanges

-- ==== Its clock.

next-later : (id number time : ℕ) (events : List TimedEvent) → RisesFrom time events → (recorded : Reply × Stamp)
    → next_timed id number events ≡ Some recorded → time ≤ recorded.1.time
unfolding next_timed RisesFrom
next-later id number time [] rises recorded is = absurd cc
next-later id number time ((Asked request, at) ∷ events) rises recorded is =
    omega (arith, ltb-false at time rises.0, next-later id (one_more number) at events rises.1 recorded is)
next-later id number time ((Replied reply, at) ∷ events) rises recorded is =
    by (reply.id == id) is (next-later id (one_more number) at events rises.1 recorded)
  where
    by : (b : Bool)
        → cond b (Some (reply, record { number = number; time = at })) (next_timed id (one_more number) events)
        ≡ Some recorded
        → (next_timed id (one_more number) events ≡ Some recorded → at ≤ recorded.1.time) → time ≤ recorded.1.time
    by true is later =
        let at_is : at ≡ recorded.1.time =
        ap (λ (r : Reply × Stamp). r.1.time) (same_Some (reply, record { number = number; time = at }) recorded is) in
        omega (arith, at_is, ltb-false at time rises.0)
    by false is later = omega (arith, later is, ltb-false at time rises.0)

abbrev AreLater : ℕ → List TimedExchange → Type 0
AreLater time exchanges = AllByRecursion (λ exchange. time ≤ exchange.replied.time) exchanges

earlier : (time at : ℕ) (exchanges : List TimedExchange) → time ≤ at → AreLater at exchanges → AreLater time exchanges
earlier time at [] less all = tt
earlier time at (x ∷ exchanges) less all = (omega (arith, less, all.0), earlier time at exchanges less all.1)

all-later : (number time : ℕ) (events : List TimedEvent) → RisesFrom time events
    → AreLater time (timed_from number events)
unfolding timed_from RisesFrom
all-later number time [] rises = tt
all-later number time ((Asked request, at) ∷ events) rises =
    by (next_timed request.id (one_more number) events)
    (λ recorded is. next-later request.id (one_more number) at events rises.1 recorded is)
    (all-later (one_more number) at events rises.1)
  where
    by : (o : Option (Reply × Stamp)) → ((recorded : Reply × Stamp) → o ≡ Some recorded → at ≤ recorded.1.time)
        → AreLater at (timed_from (one_more number) events)
        → AreLater time (answered_first request (record { number = number; time = at }) o
        (timed_from (one_more number) events))
    by None mine others = tt
    by (Some recorded) mine others = (
      omega (arith, mine recorded refl, ltb-false at time rises.0),
      earlier time at (timed_from (one_more number) events) (ltb-false at time rises.0) others,
    )
all-later number time ((Replied reply, at) ∷ events) rises =
    earlier time at (timed_from (one_more number) events) (ltb-false at time rises.0)
    (all-later (one_more number) at events rises.1)

pub keeps-alone : (tolerance number time : ℕ) (events : List TimedEvent) → RisesFrom time events
    → KeepsClock tolerance (as_asked (timed_from number events))
unfolding timed_from RisesFrom KeepsClock
keeps-alone tolerance number time [] rises = tt
keeps-alone tolerance number time ((Asked request, at) ∷ events) rises =
    by (next_timed request.id (one_more number) events) (keeps-alone tolerance (one_more number) at events rises.1)
  where
    after : (exchange : TimedExchange) → exchange.asked.time ≡ at → (exchanges : List TimedExchange)
        → AreLater at exchanges
        → AllByRecursion (λ later. comes_before tolerance later.1 exchange ≡ false) (as_asked exchanges)
    after exchange is [] all = tt
    after exchange is (x ∷ exchanges) all =
        (not-less (x.replied.time + tolerance) exchange.asked.time (omega (arith, is, all.0)), after exchange is exchanges all.1)

    by : (o : Option (Reply × Stamp)) → KeepsClock tolerance (as_asked (timed_from (one_more number) events))
        → KeepsClock tolerance (as_asked (answered_first request (record { number = number; time = at }) o
        (timed_from (one_more number) events)))
    by None later = tt
    by (Some recorded) later = (
      after
          (record { request = request; asked = record { number = number; time = at }; reply = recorded.0; replied = recorded.1 })
          refl (timed_from (one_more number) events) (all-later (one_more number) at events rises.1),
      later,
    )
keeps-alone tolerance number time ((Replied reply, at) ∷ events) rises =
    keeps-alone tolerance (one_more number) at events rises.1

-- ==== What explains it.

module _ {S : Type 0} (step : StepOf S) (start : S) (tolerance : ℕ) (events : List TimedEvent) (end : S) where
  run-pairs : pairs_in true (as_asked (timed_exchanges events)) ≡ leading_pairs (exchanges_of (map event_of events))
  run-pairs = pairs-asked (timed_exchanges events) ∙ pairs-alone 3 events

  pub of-one : AreExplained step start tolerance (events ∷ []) end → Explained step start (map event_of events) end
  of-one set = record {
    matching = set.whole.0.matching;
    within_window = set.whole.0.within_window;
    run =
        subst (λ (ps : List (Request × Reply)). Run step start ps end)
        (ap (pairs_in true) (only-order set.order (timed_exchanges events) set.explains.each) ∙ run-pairs)
        set.explains.run;
  }

  pub as-one : Rises events → Explained step start (map event_of events) end
      → AreExplained step start tolerance (events ∷ []) end
  as-one rises explained = record {
    whole = (record { matching = explained.matching; within_window = explained.within_window }, tt);
    order = as_asked (timed_exchanges events);
    explains = record {
      each = asked-is (timed_exchanges events);
      clock = keeps-alone tolerance 3 0 events rises;
      run = subst (λ (ps : List (Request × Reply)). Run step start ps end) (sym run-pairs) explained.run;
    };
  }
