-- An order grows by one request at a time.
use Rattle.std.proofs.Common.{◌≡◌, ◌==◌, ◌⊎◌, inl, inr, ℕ, ◌+◌, ◌<◌, ◌≤◌, Bool, true, false, List, [], ◌∷◌, ◌++◌, refl, sym, ap}
use Rattle.std.proofs.Common.{◌∙◌, subst, cond, max, nat_lt, arith, length, eqb-true, take, drop, get_or, Some}
use Rattle.std.proofs.lemmas.Bool.{lt-ltb, ltb-true, ltb-false, eqb-false, ne_eqb}
use Rattle.std.proofs.lemmas.List.{append_assoc, append-nil, map-append, take_more, drop_more, take-append-drop}
use Rattle.std.proofs.lemmas.List.{length-take-le}
use Rattle.std.specs.List.{AllByRecursion}
use Rattle.sftp_transcript.specs.Explained.{StepOf, Run}
use Rattle.sftp_together.specs.declared.exchanges.TimedExchange.{TimedExchange}
use Rattle.sftp_together.specs.Sets.{Sessions, session_at, is_alone, Placed, session_of, part_of, comes_before}
use Rattle.sftp_together.specs.Sets.{MayComeAfter, KeepsClock, pair_in, pairs_in}
use Rattle.sftp_together.specs.declared.errors.OrderFault.{OrderFault}
use Rattle.sftp_together.specs.declared.errors.OrderFault.TheVariants as faults
use Rattle.sftp_together.specs.Checks.{IsTaken, Takes, IsPlaced, latest_asked, MissesClock, ExplainsBy, Judging}
use Rattle.sftp_together.specs.Checks.{Stops, StopsAtClock, StopsAtReply, IsMisplaced, IsFirstFault}

-- ==== What a session has in an order.

pub part-append : (number : ℕ) (xs ys : List Placed)
    → part_of number (xs ++ ys) ≡ part_of number xs ++ part_of number ys
unfolding part_of
part-append number [] ys = refl
part-append number (x ∷ xs) ys = by (x.0 == number) (part-append number xs ys)
  where
    by : (b : Bool) → part_of number (xs ++ ys) ≡ part_of number xs ++ part_of number ys
        → cond b (x.1 ∷ part_of number (xs ++ ys)) (part_of number (xs ++ ys))
        ≡ cond b (x.1 ∷ part_of number xs) (part_of number xs) ++ part_of number ys
    by true later = ap (λ (es : List TimedExchange). x.1 ∷ es) later
    by false later = later

-- ==== The clock.

pub clock-push : (tolerance number : ℕ) (exchange : TimedExchange) (order : List Placed) → KeepsClock tolerance order
    → MayComeAfter tolerance exchange order → KeepsClock tolerance (order ++ (number, exchange) ∷ [])
unfolding KeepsClock
clock-push tolerance number exchange [] keeps may = (tt, tt)
clock-push tolerance number exchange (placed ∷ order) keeps may =
    (later order keeps.0, clock-push tolerance number exchange order keeps.1 may.1)
  where
    later : (order : List Placed)
        → AllByRecursion (λ later. comes_before tolerance later.1 placed.1 ≡ false) order
        → AllByRecursion (λ later. comes_before tolerance later.1 placed.1 ≡ false) (order ++ (number, exchange) ∷ [])
    later [] all = (may.0, tt)
    later (x ∷ xs) all = (all.0, later xs all.1)

pub latest-push : (number : ℕ) (exchange : TimedExchange) (order : List Placed)
    → latest_asked (order ++ (number, exchange) ∷ []) ≡ max (latest_asked order) exchange.asked.time
unfolding latest_asked
latest-push number exchange [] = omega arith
latest-push number exchange (placed ∷ order) = omega (arith, latest-push number exchange order)

pub not-less : (a b : ℕ) → b ≤ a → nat_lt a b ≡ false
not-less a b most = by (nat_lt a b) refl
  where
    by : (t : Bool) → nat_lt a b ≡ t → nat_lt a b ≡ false
    by true is = absurd (omega (arith, ltb-true a b is, most))
    by false is = is

-- what had its reply in time for the last one to be asked had it in time for each
pub may-come : (tolerance : ℕ) (exchange : TimedExchange) (order : List Placed)
    → nat_lt (exchange.replied.time + tolerance) (latest_asked order) ≡ false → MayComeAfter tolerance exchange order
unfolding latest_asked
may-come tolerance exchange [] late = tt
may-come tolerance exchange (placed ∷ order) late =
    let most = ltb-false (exchange.replied.time + tolerance) (max placed.1.asked.time (latest_asked order)) late in (
      not-less (exchange.replied.time + tolerance) placed.1.asked.time (omega (arith, most)),
      may-come tolerance exchange order (not-less (exchange.replied.time + tolerance) (latest_asked order) (omega (arith, most))),
    )

pub misses-clock : (tolerance : ℕ) (exchange : TimedExchange) (order : List Placed)
    → nat_lt (exchange.replied.time + tolerance) (latest_asked order) ≡ true → MissesClock tolerance exchange order
unfolding latest_asked MissesClock
misses-clock tolerance exchange [] late =
    absurd (omega (arith, ltb-true (exchange.replied.time + tolerance) 0 late))
misses-clock tolerance exchange (placed ∷ order) late =
    by (comes_before tolerance exchange placed.1) refl (misses-clock tolerance exchange order)
  where
    by : (t : Bool) → comes_before tolerance exchange placed.1 ≡ t
        → (nat_lt (exchange.replied.time + tolerance) (latest_asked order) ≡ true
        → MissesClock tolerance exchange order)
        → (comes_before tolerance exchange placed.1 ≡ true) ⊎ MissesClock tolerance exchange order
    by true is later = inl is
    by false is later =
        let less = ltb-true (exchange.replied.time + tolerance) (max placed.1.asked.time (latest_asked order)) late in
        let most = ltb-false (exchange.replied.time + tolerance) placed.1.asked.time is in
        inr (later (lt-ltb (exchange.replied.time + tolerance) (latest_asked order) (omega (arith, less, most))))

-- ==== The run.

module _ {S : Type 0} (step : StepOf S) (alone : Bool) where
  pub run-push : (s mid end : S) (order : List Placed) (placed : Placed) → Run step s (pairs_in alone order) mid
      → step mid (pair_in alone placed).0 (pair_in alone placed).1 end
      → Run step s (pairs_in alone (order ++ placed ∷ [])) end
  run-push s mid end [] placed run done =
      (end, subst (λ (s : S). step s (pair_in alone placed).0 (pair_in alone placed).1 end) run done, refl)
  run-push s mid end (x ∷ order) placed run done = (run.0, run.1, run-push run.0 mid end order placed run.2 done)

  -- what is run of a longer order is run of its beginning
  pub run-split : (s end : S) (xs ys : List Placed) → Run step s (pairs_in alone (xs ++ ys)) end
      → (mid : S) × Run step s (pairs_in alone xs) mid × Run step mid (pairs_in alone ys) end
  run-split s end [] ys run = (s, refl, run)
  run-split s end (x ∷ xs) ys run =
      let later = run-split run.0 end xs ys run.2 in (later.0, (run.0, run.1, later.1), later.2)

flipped : (a b : ℕ) → (a == b) ≡ false → (b == a) ≡ false
flipped a b apart = ne_eqb b a (λ e. eqb-false a b apart (sym e))

-- ==== All of it.

module _ {S : Type 0} (step : StepOf S) (start : S) (tolerance : ℕ) (sessions : Sessions) where
  pub nothing-placed : IsPlaced step start tolerance sessions [] [] sessions start
  unfolding part_of KeepsClock
  nothing-placed = record {
    named = refl;
    each = λ number. refl;
    as_many = refl;
    clock = tt;
    run = refl;
  }

  -- the next request of a session gets the next place
  pub one-more : (numbers : List ℕ) (placed : List Placed) (left new : Sessions) (mid end : S) (number : ℕ)
      (exchange : TimedExchange) → IsPlaced step start tolerance sessions numbers placed left mid
      → IsTaken number left exchange new → MayComeAfter tolerance exchange placed
      → step mid (pair_in (is_alone sessions) (number, exchange)).0 (pair_in (is_alone sessions) (number, exchange)).1 end
      → IsPlaced step start tolerance sessions (numbers ++ number ∷ []) (placed ++ (number, exchange) ∷ []) new end
  unfolding part_of
  one-more numbers placed left new mid end number exchange right taken may done = record {
    named =
        map-append session_of placed ((number, exchange) ∷ [])
        ∙ ap (λ (ns : List ℕ). ns ++ number ∷ []) right.named;
    each = λ other. right.each other ∙ by other (number == other) refl;
    as_many = taken.as_many ∙ right.as_many;
    clock = clock-push tolerance number exchange placed right.clock may;
    run = run-push step (is_alone sessions) start mid end placed (number, exchange) right.run done;
  }
    where
      by : (other : ℕ) (b : Bool) → (number == other) ≡ b
          → part_of other placed ++ session_at other left
          ≡ part_of other (placed ++ (number, exchange) ∷ []) ++ session_at other new
      by other true same =
          let is : number ≡ other = eqb-true number other same in
          let here : session_at other left ≡ exchange ∷ session_at other new =
          subst (λ (n : ℕ). session_at n left ≡ exchange ∷ session_at n new) is
          (taken.first ∙ ap (λ (es : List TimedExchange). exchange ∷ es) (sym taken.rest)) in
          let mine : part_of other ((number, exchange) ∷ []) ≡ exchange ∷ [] = rw same refl in
          ap (λ (es : List TimedExchange). part_of other placed ++ es) here
          ∙ (sym (append_assoc (part_of other placed) (exchange ∷ []) (session_at other new))
          ∙ ap (λ (es : List TimedExchange). es ++ session_at other new)
          (ap (λ (es : List TimedExchange). part_of other placed ++ es) (sym mine)
          ∙ sym (part-append other placed ((number, exchange) ∷ []))))
      by other false away =
          let same : session_at other new ≡ session_at other left =
          taken.others other (flipped number other away) in
          let mine : part_of other ((number, exchange) ∷ []) ≡ [] = rw away refl in
          ap (λ (es : List TimedExchange). part_of other placed ++ es) (sym same)
          ∙ ap (λ (es : List TimedExchange). es ++ session_at other new)
          (sym (append-nil (part_of other placed))
          ∙ (ap (λ (es : List TimedExchange). part_of other placed ++ es) (sym mine)
          ∙ sym (part-append other placed ((number, exchange) ∷ []))))

  -- where nothing is left, the order explains the sessions
  pub all-placed : (numbers : List ℕ) (placed : List Placed) (left : Sessions) (end : S)
      → IsPlaced step start tolerance sessions numbers placed left end
      → ((number : ℕ) → session_at number left ≡ []) → ExplainsBy step start tolerance sessions numbers end
  all-placed numbers placed left end right none = record {
    order = placed;
    named = right.named;
    explains = record {
      each = λ number.
          sym (append-nil (part_of number placed))
          ∙ (ap (λ (es : List TimedExchange). part_of number placed ++ es) (sym (none number)) ∙ sym (right.each number));
      clock = right.clock;
      run = right.run;
    };
  }

-- ==== One place of an order, as it is judged.

pub none-latest : 0 ≡ latest_asked []
unfolding latest_asked
none-latest = refl

module _ {S : Type 0} (step : StepOf S) (start : S) (tolerance : ℕ) (sessions : Sessions) (order : List ℕ)
    (place : ℕ) (placed : List Placed) (left : Sessions) (within : place < length order) (old : Judging S)
    (right : IsPlaced step start tolerance sessions (take place order) placed left old.state)
    (alone : old.alone ≡ is_alone sessions) (bound : old.tolerance ≡ tolerance)
    (latest : old.latest ≡ latest_asked placed) where
  pub next-placed : (new : Sessions) (end : S) (exchange : TimedExchange)
      → Takes (get_or order place 0) left (Some exchange) new
      → nat_lt (exchange.replied.time + old.tolerance) old.latest ≡ false
      → step old.state (pair_in old.alone (get_or order place 0, exchange)).0
      (pair_in old.alone (get_or order place 0, exchange)).1 end
      → IsPlaced step start tolerance sessions (take (place + 1) order)
      (placed ++ (get_or order place 0, exchange) ∷ []) new end
  next-placed new end exchange taken in_time done =
      let early : nat_lt (exchange.replied.time + tolerance) (latest_asked placed) ≡ false =
      subst (λ (t : ℕ). nat_lt (exchange.replied.time + t) (latest_asked placed) ≡ false) bound
      (subst (λ (n : ℕ). nat_lt (exchange.replied.time + old.tolerance) n ≡ false) latest in_time) in
      subst (λ (ns : List ℕ). IsPlaced step start tolerance sessions ns
      (placed ++ (get_or order place 0, exchange) ∷ []) new end) (sym (take_more order place 0 within))
      (one-more step start tolerance sessions (take place order) placed left new old.state end (get_or order place 0)
      exchange right taken (may-come tolerance exchange placed early)
      (subst (λ (b : Bool). step old.state (pair_in b (get_or order place 0, exchange)).0
      (pair_in b (get_or order place 0, exchange)).1 end) alone done))

  abbrev pub stops-at : (next : List TimedExchange) → session_at (get_or order place 0) left ≡ next
      → Stops step start tolerance sessions order place (get_or order place 0) next
  stops-at next is = record {
    before = take place order;
    behind = drop (place + 1) order;
    numbers_are =
        sym (take-append-drop place order)
        ∙ ap (λ (ns : List ℕ). take place order ++ ns) (drop_more order place 0 within);
    place_is = sym (length-take-le place order (omega (arith, within)));
    placed = placed;
    left = left;
    mid = old.state;
    right = right;
    next_is = is;
  }

  pub misplaced : (new : Sessions) (exchange : TimedExchange) (fault : OrderFault)
      → Takes (get_or order place 0) left (Some exchange) new
      → IsMisplaced step old place (get_or order place 0) exchange fault
      → IsFirstFault step start tolerance sessions order fault
  misplaced new exchange (faults.NothingLeft at session) taken wrong = absurd wrong
  misplaced new exchange (faults.Clock at session stamp) taken wrong =
      let late : nat_lt (exchange.replied.time + tolerance) (latest_asked placed) ≡ true =
      subst (λ (t : ℕ). nat_lt (exchange.replied.time + t) (latest_asked placed) ≡ true) bound
      (subst (λ (n : ℕ). nat_lt (exchange.replied.time + old.tolerance) n ≡ true) latest wrong.3) in
      subst (λ (p : ℕ). StopsAtClock step start tolerance sessions order p session stamp) (sym wrong.0)
      (subst (λ (n : ℕ). StopsAtClock step start tolerance sessions order place n stamp) (sym wrong.1)
      (record {
        exchange = exchange;
        others = taken.behind;
        stops = stops-at (exchange ∷ taken.behind) taken.first;
        missed = misses-clock tolerance exchange placed late;
        record_is = wrong.2;
      }))
  misplaced new exchange (faults.Reply at session stamp) taken wrong =
      let early : nat_lt (exchange.replied.time + tolerance) (latest_asked placed) ≡ false =
      subst (λ (t : ℕ). nat_lt (exchange.replied.time + t) (latest_asked placed) ≡ false) bound
      (subst (λ (n : ℕ). nat_lt (exchange.replied.time + old.tolerance) n ≡ false) latest wrong.3) in
      subst (λ (p : ℕ). StopsAtReply step start tolerance sessions order p session stamp) (sym wrong.0)
      (subst (λ (n : ℕ). StopsAtReply step start tolerance sessions order place n stamp) (sym wrong.1)
      (record {
        exchange = exchange;
        others = taken.behind;
        stops = stops-at (exchange ∷ taken.behind) taken.first;
        in_time = may-come tolerance exchange placed early;
        wrong = λ end done.
            wrong.4 end
            (subst (λ (b : Bool). step old.state (pair_in b (get_or order place 0, exchange)).0
            (pair_in b (get_or order place 0, exchange)).1 end) (sym alone) done);
        record_is = wrong.2;
      }))
  misplaced new exchange (faults.LeftOut session stamp) taken wrong = absurd wrong
  misplaced new exchange (faults.Unread session) taken wrong = absurd wrong
  misplaced new exchange faults.NoMemory taken wrong = tt
