-- What an auditor keeps goes on with each event, and what it refuses has its reason.
use Rattle.sftp_audit.proofs.Imports.{◌≡◌, ℕ, ◌<◌, Bool, true, false, List, [], ◌∷◌, ◌++◌, length, slice_get, Some}
use Rattle.sftp_audit.proofs.Imports.{None, Ok, Err, Result, OnOk, refl, sym, ap, ◌∙◌, subst, append_assoc}
use Rattle.sftp_audit.proofs.Imports.{append-nil, arith, Request, Reply, StepOf, FollowsOf, Event, Asked, Replied}
use Rattle.sftp_audit.proofs.Imports.{first_number, Run, Explained, exchanges_of, leading_pairs, window, turn_after}
use Rattle.sftp_audit.proofs.Imports.{closed, broken, in_window, IsWaiting, Refusal, Exchange, Audited, StandsFor}
use Rattle.sftp_audit.proofs.Imports.{LacksReply, IsTold, IsFirstWrong, recorded_exchanges, exchanges_from, unsettled}
use Rattle.sftp_audit.proofs.Imports.{AreAnswered, is_awaited, ledger_of, RefusesRequest, RefusesReply, ◌≢◌, ◌==◌}
use Rattle.sftp_audit.proofs.Imports.{Option, cases_Bool, eq-eqb, waiting, next_reply, Sound, sound_by, Refuses}
use Rattle.sftp_audit.proofs.Imports.{is_answered}
use Rattle.sftp_audit.specs.Auditor.{RefusesToSettle, IsWrongIn, HasNoted, HasReason, StopsIn, Reports}
use Rattle.sftp_audit.specs.Exchanges.{with_reply}
use Rattle.sftp_audit.specs.declared.errors.Refusal.TheVariants as refusals
use Rattle.sftp_audit.proofs.auditing.{answered-append, ledger_of-recorded, recorded-asked, recorded-replied}
use Rattle.sftp_audit.proofs.auditing.{settled_parts, unsettled-answered, unsettled-asked, with_reply-answered}
use Rattle.sftp_audit.proofs.auditing.{with_reply-append, is_awaited-unsettled, leading_pairs-settled}
use Rattle.sftp_audit.proofs.auditing.{leading_pairs-unsettled, leading_pairs-asked, first_unsettled}
use Rattle.sftp_audit.proofs.auditing.Turns.{waits_if_open, closed_if_none, in_turn-asked, in_turn-replied}
use Rattle.sftp_audit.proofs.auditing.Turns.{window-asked, window-replied, run-append, window-full, run-split}
use Rattle.sftp_audit.proofs.auditing.Turns.{one_more_event, second_request, reply_unasked}
use Rattle.sftp_audit.proofs.steps.{HasOneEnd, run-one_end}

-- What is kept, with the reply: the settled exchanges come before it.
record Answered {S : Type 0} (step : StepOf S) (start : S) (events : List Event) (reply : Reply) (old : Audited S)
    : Type 0
  where
    before : List Exchange
    answered : AreAnswered before
    run : Run step start (leading_pairs (ledger_of before)) old.state
    recorded : recorded_exchanges (events ++ Replied reply ∷ [])
        ≡ before ++ with_reply (record { reply = reply; number = old.number }) old.kept

-- a request of the reply's id waited, and these exchanges have the reply
abbrev pub HasReply : {S : Type 0} → Reply → Audited S → List Exchange → Type 0
HasReply reply old kept =
    (is_awaited reply.id old.kept ≡ true) × (kept ≡ with_reply (record { reply = reply; number = old.number }) old.kept)

-- what was seen of an auditor, as its parts say it
abbrev pub viewed : {S : Type 0} {old seen : Audited S} → old ≡ seen → Audited S
viewed {old = old} view = old

module _ {S : Type 0} (step : StepOf S) where
  -- ---- nothing yet

  -- a fresh auditor stands for no events
  pub stands_from_start : (start : S) (new : Audited S) → new.state ≡ start → new.kept ≡ [] → new.number ≡ first_number
      → new.refusal ≡ None → new.follows ≡ true → StandsFor step start [] new
  unfolding turn_after in_window exchanges_of leading_pairs exchanges_from unsettled
  stands_from_start start new same nothing number unrefused followed = record {
    sound = record {
      in_turn = λ id broke. (let out : closed ≡ broken = broke in absurd cc);
      within_window = refl;
      run = same;
    };
    kept = nothing;
    number = number;
    unrefused = unrefused;
    followed = followed;
  }

  -- ---- what is kept says which requests wait

  waits_as : (start : S) (events : List Event) (old : Audited S) (id : ℕ) (b : Bool) → StandsFor step start events old
      → is_awaited id old.kept ≡ b → is_awaited id (recorded_exchanges events) ≡ b
  waits_as start events old id b stands is = rw (← is_awaited-unsettled id (recorded_exchanges events), ← stands.kept) is

  waiting_of : (start : S) (events : List Event) (old : Audited S) (id : ℕ) → StandsFor step start events old
      → is_awaited id old.kept ≡ true → IsWaiting events id
  waiting_of start events old id stands is =
      waits_if_open events id stands.sound.in_turn
      (waits_as start events old id true stands is)

  closed_of : (start : S) (events : List Event) (old : Audited S) (id : ℕ) → StandsFor step start events old
      → is_awaited id old.kept ≡ false → turn_after id closed events ≡ closed
  closed_of start events old id stands is =
      closed_if_none events id stands.sound.in_turn
      (waits_as start events old id false stands is)

  -- ---- one request more

  asked_pairs : (events : List Event) (request : Request)
      → leading_pairs (exchanges_of (events ++ Asked request ∷ [])) ≡ leading_pairs (exchanges_of events)
  asked_pairs events request =
      rw (
        ← ledger_of-recorded (events ++ Asked request ∷ []),
        ← ledger_of-recorded events,
        recorded-asked events request,
      )
      (leading_pairs-asked (recorded_exchanges events) _ refl)

  noted-asked : (request : Request) (old new : Audited S) → is_awaited request.id old.kept ≡ false → length old.kept < window
      → new.kept ≡ old.kept ++ record { request = request; number = old.number; reply = None } ∷ []
      → new.state ≡ old.state → new.follows ≡ old.follows → HasNoted step old (Asked request) new
  noted-asked request old new none room kept same stays start events stands = record {
    sound = record {
      in_turn = in_turn-asked events request stands.sound.in_turn (closed_of start events old request.id stands none);
      within_window = window-asked events request stands.sound.within_window (rw (← stands.kept) room);
      run = rw (asked_pairs events request, same) stands.sound.run;
    };
    kept = rw (kept, stands.kept, stands.number, recorded-asked events request)
        (sym (unsettled-asked (recorded_exchanges events) _ refl));
    followed = stays ∙ stands.followed;
  }

  pub result-asked : {T : Type 0} (result : Result T Refusal) (request : Request) (old new : Audited S)
      → OnOk result (is_awaited request.id old.kept ≡ false) → OnOk result (length old.kept < window)
      → OnOk result (new.kept ≡ old.kept ++ record { request = request; number = old.number; reply = None } ∷ [])
      → new.state ≡ old.state → new.follows ≡ old.follows → OnOk result (HasNoted step old (Asked request) new)
  result-asked (Ok x) request old new none room kept same stays = noted-asked request old new none room kept same stays
  result-asked (Err e) request old new none room kept same stays = tt

  -- a request that is not taken is refused
  pub refused-asked : (request : Request) (old : Audited S) (refusal : Refusal)
      → RefusesRequest old.kept request old.number refusal → HasReason step old (Asked request) refusal
  refused-asked request old refusal r start events stands =
      grind (
        arith,
        stands.number,
        stands.kept,
        waiting_of start events old request.id stands,
        closed_of start events old request.id stands,
      )

  -- and no reply is wrong
  pub wrong-asked : (request : Request) (old : Audited S) (state : S) (refusal : Refusal)
      → RefusesRequest old.kept request old.number refusal → StopsIn step old (Asked request) state refusal
  wrong-asked request old state refusal r start events stands = grind arith

  pub told-asked : (follows : FollowsOf S) (request : Request) (old : Audited S) (told : Bool)
      → told ≡ old.follows → (refusal : Refusal) → RefusesRequest old.kept request old.number refusal
      → Reports step follows old (Asked request) told refusal
  told-asked follows request old told same refusal r start events stands = grind arith

  -- ---- one reply more

  answered_of : (start : S) (events : List Event) (reply : Reply) (old : Audited S) → StandsFor step start events old
      → Answered step start events reply old
  answered_of start events reply old stands =
      let parts = settled_parts (recorded_exchanges events) in
      let all : recorded_exchanges events ≡ parts.0 ++ old.kept =
      parts.2 ∙ ap (λ xs. parts.0 ++ xs) (sym stands.kept) in
      let pairs : leading_pairs (exchanges_of events) ≡ leading_pairs (ledger_of parts.0) =
      ap leading_pairs (sym (ledger_of-recorded events) ∙ ap ledger_of all)
      ∙ leading_pairs-settled parts.0 old.kept parts.1
      ∙ rw (stands.kept, leading_pairs-unsettled (recorded_exchanges events)) (append-nil _) in
      record {
        before = parts.0;
        answered = parts.1;
        run = subst (λ xs. Run step start xs old.state) pairs stands.sound.run;
        recorded = recorded-replied events reply
            ∙ rw (← stands.number) (ap (with_reply (record { reply = reply; number = old.number })) all)
            ∙ with_reply-append _ parts.0 old.kept
            ∙ ap (λ xs. xs ++ with_reply (record { reply = reply; number = old.number }) old.kept)
            (with_reply-answered _ parts.0 parts.1);
      }

  noted-replied : (reply : Reply) (old : Audited S) (kept : List Exchange) (new : Audited S) → HasReply reply old kept
      → new.kept ≡ unsettled kept → Run step old.state (leading_pairs (ledger_of kept)) new.state
      → new.follows ≡ old.follows → HasNoted step old (Replied reply) new
  noted-replied reply old kept new has settled run stays start events stands =
      let turn = waiting_of start events old reply.id stands has.0 in
      let a = answered_of start events reply old stands in
      let all : recorded_exchanges (events ++ Replied reply ∷ []) ≡ a.before ++ kept =
      a.recorded ∙ ap (λ xs. a.before ++ xs) (sym has.1) in
      let pairs = leading_pairs-settled a.before kept a.answered in
      record {
        sound = record {
          in_turn = in_turn-replied events reply stands.sound.in_turn turn;
          within_window = window-replied events reply ∙ stands.sound.within_window;
          run =
              rw (← ledger_of-recorded (events ++ Replied reply ∷ []), all, pairs)
              (run-append step start _ old.state _ new.state a.run run);
        };
        kept = rw (all, unsettled-answered a.before kept a.answered) settled;
        followed = stays ∙ stands.followed;
      }

  pub result-replied : {T : Type 0} (result : Result T Refusal) (reply : Reply) (old : Audited S) (kept : List Exchange)
      (new : Audited S) → HasReply reply old kept → OnOk result (new.kept ≡ unsettled kept)
      → OnOk result (Run step old.state (leading_pairs (ledger_of kept)) new.state)
      → OnOk result (new.follows ≡ old.follows) → OnOk result (HasNoted step old (Replied reply) new)
  result-replied (Ok x) reply old kept new has settled run stays =
      noted-replied reply old kept new has settled run stays
  result-replied (Err e) reply old kept new has settled run stays = tt

  -- a reply that is not taken is refused, and it is not wrong
  pub refused-replied : (reply : Reply) (old : Audited S) (refusal : Refusal)
      → RefusesReply old.kept (record { reply = reply; number = old.number }) refusal
      → HasReason step old (Replied reply) refusal
  refused-replied reply old refusal r start events stands =
      grind (arith, stands.number, closed_of start events old reply.id stands)

  pub wrong-replied : (reply : Reply) (old : Audited S) (state : S) (refusal : Refusal)
      → RefusesReply old.kept (record { reply = reply; number = old.number }) refusal
      → StopsIn step old (Replied reply) state refusal
  wrong-replied reply old state refusal r start events stands = grind arith

  pub told-replied : (follows : FollowsOf S) (reply : Reply) (old : Audited S) (told : Bool)
      → told ≡ old.follows → (refusal : Refusal)
      → RefusesReply old.kept (record { reply = reply; number = old.number }) refusal
      → Reports step follows old (Replied reply) told refusal
  told-replied follows reply old told same refusal r start events stands = grind arith

  -- what settling finds wrong first is the first that is wrong of all
  first_wrong : (reply : Reply) (old : Audited S) (kept : List Exchange) → HasReply reply old kept → (number : ℕ)
      → IsFirstWrong step old.state kept number → (start : S) (events : List Event) → StandsFor step start events old
      → IsFirstWrong step start (recorded_exchanges (events ++ Replied reply ∷ [])) number
  first_wrong reply old kept has number r start events stands =
      let a = answered_of start events reply old stands in
      let one : Exchange = record {
        request = r.request;
        number = r.asked_in;
        reply = Some (record { reply = r.reply; number = number });
      } in
      record {
        before = a.before ++ r.before;
        request = r.request;
        asked_in = r.asked_in;
        reply = r.reply;
        behind = r.behind;
        exchanges_are = a.recorded ∙ ap (λ (xs : List Exchange). a.before ++ xs) (sym has.1 ∙ r.exchanges_are)
            ∙ sym (append_assoc a.before r.before (one ∷ r.behind));
        answered = answered-append a.before r.before a.answered r.answered;
        mid = r.mid;
        run = subst (λ (xs : List (Request × Reply)). Run step start xs r.mid)
            (sym (leading_pairs-settled a.before r.before a.answered))
            (run-append step start (leading_pairs (ledger_of a.before)) old.state (leading_pairs (ledger_of r.before))
            r.mid a.run r.run);
        wrong = r.wrong;
      }

  -- so what settling refuses is refused
  pub refused-settling : (reply : Reply) (old : Audited S) (kept : List Exchange) → HasReply reply old kept
      → (refusal : Refusal) → RefusesToSettle step old.state kept refusal → HasReason step old (Replied reply) refusal
  refused-settling reply old kept has refusal r start events stands =
      grind (arith, waiting_of start events old reply.id stands has.0, first_wrong reply old kept has)

  -- in the state in which it is, and with what is told of it
  pub wrong-settling : (reply : Reply) (old : Audited S) (kept : List Exchange) (state : S) → HasReply reply old kept
      → (refusal : Refusal) → IsWrongIn step old.state kept state refusal → StopsIn step old (Replied reply) state refusal
  unfolding first_wrong
  wrong-settling reply old kept state has (refusals.NotAllowed number) r start events stands =
      (first_wrong reply old kept has number r.0 start events stands, r.1)
  wrong-settling reply old kept state has other r start events stands = tt

  pub told-settling : (follows : FollowsOf S) (reply : Reply) (old : Audited S) (kept : List Exchange) (after : Bool)
      → HasReply reply old kept → (refusal : Refusal) → IsTold step follows old.state kept old.follows after refusal
      → Reports step follows old (Replied reply) after refusal
  unfolding first_wrong
  told-settling follows reply old kept after has (refusals.NotAllowed number) r start events stands =
      (first_wrong reply old kept has number r.0 start events stands, r.1)
  told-settling follows reply old kept after has other r start events stands = r

  -- ---- the auditor as it was seen

  pub at_view : (start : S) (events : List Event) (seen old : Audited S) → old ≡ seen → StandsFor step start events seen
      → StandsFor step start events old
  at_view start events seen old view stands = subst (StandsFor step start events) (sym view) stands

  -- ---- the end

  nothing_first : (xs : List Exchange) → slice_get xs 0 ≡ None → xs ≡ []
  nothing_first [] is = refl
  nothing_first (x ∷ xs) is = absurd cc

  others_of : (xs : List Exchange) (x : Exchange) → slice_get xs 0 ≡ Some x → (others : List Exchange) × (xs ≡ x ∷ others)
  others_of [] x is = absurd cc
  others_of (y ∷ xs) x is = (xs, let same : y ≡ x = cc in ap (λ (z : Exchange). z ∷ xs) same)

  -- where nothing is kept, the events are explained
  pub explained-settled : (start : S) (events : List Event) (old : Audited S) → StandsFor step start events old
      → slice_get old.kept 0 ≡ None → Explained step start events old.state
  unfolding is_awaited
  explained-settled start events old stands none = record {
    matching = λ id. closed_of start events old id stands (ap (is_awaited id) (nothing_first old.kept none));
    within_window = stands.sound.within_window;
    run = stands.sound.run;
  }

  -- the first exchange that is kept is the oldest one without a reply
  pub lacks_reply : (start : S) (events : List Event) (old : Audited S) (exchange : Exchange)
      → StandsFor step start events old → slice_get old.kept 0 ≡ Some exchange
      → LacksReply events (refusals.Unanswered exchange.number)
  lacks_reply start events old exchange stands first =
      let found = others_of old.kept exchange first in
      (exchange, found.0, sym stands.kept ∙ found.1, refl)

-- ==== What an auditor refuses is lost: whatever else comes, the tree explains no such session.

-- ---- pairs stay where they are

next_reply-stays : (id : ℕ) (xs ys : List Event) (reply : Reply) → next_reply id xs ≡ Some reply
    → next_reply id (xs ++ ys) ≡ Some reply
unfolding next_reply
next_reply-stays id [] ys reply is = absurd cc
next_reply-stays id (Asked request ∷ xs) ys reply is = next_reply-stays id xs ys reply is
next_reply-stays id (Replied given ∷ xs) ys reply is = grind (arith, cases_Bool, next_reply-stays id xs ys reply)

-- a list begins with another one
record BeginsWith (xs ys : List (Request × Reply)) : Type 0 where
  others : List (Request × Reply)
  are : ys ≡ xs ++ others

-- the leading pairs of events come first in those of more events
leading_pairs-more : (xs ys : List Event)
    → BeginsWith (leading_pairs (exchanges_of xs)) (leading_pairs (exchanges_of (xs ++ ys)))
unfolding leading_pairs exchanges_of
leading_pairs-more [] ys = record { others = leading_pairs (exchanges_of ys); are = refl }
leading_pairs-more (Replied reply ∷ xs) ys = leading_pairs-more xs ys
leading_pairs-more (Asked request ∷ xs) ys =
    by (next_reply request.id xs) refl (leading_pairs-more xs ys) (next_reply-stays request.id xs ys)
  where
    by : (own : Option Reply) → next_reply request.id xs ≡ own
        → BeginsWith (leading_pairs (exchanges_of xs)) (leading_pairs (exchanges_of (xs ++ ys)))
        → ((reply : Reply) → next_reply request.id xs ≡ Some reply → next_reply request.id (xs ++ ys) ≡ Some reply)
        → BeginsWith (leading_pairs (exchanges_of (Asked request ∷ xs)))
        (leading_pairs (exchanges_of (Asked request ∷ xs ++ ys)))
    by None is rest stays = rw is (record { others = _; are = refl })
    by (Some reply) is rest stays = rw (is, stays reply is)
        (record { others = rest.others; are = ap (λ (l : List (Request × Reply)). (request, reply) ∷ l) rest.are })

module _ {S : Type 0} (step : StepOf S) (one_end : HasOneEnd step) where
  -- a run over more events begins with one over the events
  run_before : (start : S) (xs ys : List Event) (last : S)
      → Run step start (leading_pairs (exchanges_of (xs ++ ys))) last
      → (mid : S) × Run step start (leading_pairs (exchanges_of xs)) mid
  run_before start xs ys last run =
      let found = leading_pairs-more xs ys in
      let parts = run-split step start (leading_pairs (exchanges_of xs)) found.others last
      (subst (λ (l : List (Request × Reply)). Run step start l last) found.are run) in
      (parts.0, parts.1)

  -- ---- a reply that is not allowed

  -- no run goes over the first reply that is not allowed
  run_stops : (start : S) (exchanges : List Exchange) (number : ℕ) (end : S)
      → IsFirstWrong step start exchanges number → Run step start (leading_pairs (ledger_of exchanges)) end → ⊥
  unfolding leading_pairs
  run_stops start exchanges number end first run =
      let one : Exchange = record {
        request = first.request;
        number = first.asked_in;
        reply = Some (record { reply = first.reply; number = number });
      } in
      let pairs : leading_pairs (ledger_of exchanges) ≡ leading_pairs (ledger_of first.before)
      ++ (first.request, first.reply) ∷ leading_pairs (ledger_of first.behind) =
      ap (λ (xs : List Exchange). leading_pairs (ledger_of xs)) first.exchanges_are
      ∙ leading_pairs-settled first.before (one ∷ first.behind) first.answered in
      let parts = run-split step start (leading_pairs (ledger_of first.before))
      ((first.request, first.reply) ∷ leading_pairs (ledger_of first.behind)) end
      (subst (λ (l : List (Request × Reply)). Run step start l end) pairs run) in
      let mid : parts.0 ≡ first.mid =
      run-one_end step one_end (leading_pairs (ledger_of first.before)) start parts.0 first.mid parts.1
      first.run in
      first.wrong parts.2.0 (subst (λ (s : S). step s first.request first.reply parts.2.0) mid parts.2.1)

  wrong_reply : (start : S) (events : List Event) (number : ℕ) (more : List Event) (last : S)
      → IsFirstWrong step start (recorded_exchanges events) number
      → Run step start (leading_pairs (exchanges_of (events ++ more))) last → ⊥
  wrong_reply start events number more last first run =
      let found = run_before start events more last run in
      run_stops start (recorded_exchanges events) number found.0 first
      (subst (λ (l : List (Request × Option Reply)). Run step start (leading_pairs l) found.0)
      (sym (ledger_of-recorded events)) found.1)

  -- ---- what is refused is lost

  -- No sound session begins with an event that is refused.
  pub refuses_unsound : (start : S) (events : List Event) (event : Event) (refusal : Refusal) (end : S)
      → Sound step start events end → Refuses step start events event refusal → refusal ≢ refusals.NoMemory
      → (more : List Event) (last : S) → Sound step start (events ++ event ∷ more) last → ⊥
  refuses_unsound start events event refusals.NoMemory end sound refuses memory more last whole = memory refl
  refuses_unsound start events (Asked request) (refusals.IdInUse number) end sound refuses memory more last whole =
      second_request events request more refuses.1 whole.in_turn
  refuses_unsound start events (Asked request) (refusals.Window number) end sound refuses memory more last whole =
      window-full events request refuses.2 more whole.within_window
  refuses_unsound start events (Replied reply) (refusals.UnknownReply number) end sound refuses memory more last whole =
      reply_unasked events reply more refuses.1 whole.in_turn
  refuses_unsound start events (Replied reply) (refusals.NotAllowed number) end sound refuses memory more last whole =
      wrong_reply start (events ++ Replied reply ∷ []) number more last refuses.1
      (subst (λ (all : List Event). Run step start (leading_pairs (exchanges_of all)) last)
      (sym (one_more_event events (Replied reply) more)) whole.run)
  refuses_unsound start events (Asked request) other end sound refuses memory more last whole = absurd refuses
  refuses_unsound start events (Replied reply) other end sound refuses memory more last whole = absurd refuses

  -- No session that begins with an event that is refused is explained.
  pub refuses_lost : (start : S) (events : List Event) (event : Event) (refusal : Refusal) (end : S)
      → Sound step start events end → Refuses step start events event refusal → refusal ≢ refusals.NoMemory
      → (more : List Event) (last : S) → Explained step start (events ++ event ∷ more) last → ⊥
  refuses_lost start events event refusal end sound refuses memory more last explained =
      refuses_unsound start events event refusal end sound refuses memory more last
      (sound_by step start (events ++ event ∷ more) last explained)

  first_is_awaited : (x : Exchange) (others : List Exchange) → is_answered x ≡ false
      → is_awaited x.request.id (x ∷ others) ≡ true
  unfolding is_awaited
  first_is_awaited x others waits =
      let same : (x.request.id == x.request.id) ≡ true = eq-eqb x.request.id x.request.id refl in
      rw (waits, same) refl

  -- A session is not explained where a request has no reply.
  pub lacks_lost : (start : S) (events : List Event) (refusal : Refusal) (end : S)
      → Sound step start events end → LacksReply events refusal → (last : S)
      → Explained step start events last → ⊥
  lacks_lost start events (refusals.Unanswered number) end sound lacks last explained =
      let x = lacks.0 in
      let opened : is_awaited x.request.id (recorded_exchanges events) ≡ true =
      sym (is_awaited-unsettled x.request.id (recorded_exchanges events))
      ∙ ap (is_awaited x.request.id) lacks.2
      ∙ first_is_awaited x lacks.1 (first_unsettled (recorded_exchanges events) x lacks.1 lacks.2) in
      let waits : turn_after x.request.id closed events ≡ waiting =
      waits_if_open events x.request.id sound.in_turn opened in
      let end_is : turn_after x.request.id closed events ≡ closed = explained.matching x.request.id in
      let same : waiting ≡ closed = sym waits ∙ end_is in
      absurd cc
  lacks_lost start events other end sound lacks last explained = absurd lacks
