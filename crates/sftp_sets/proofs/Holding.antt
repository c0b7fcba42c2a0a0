-- What is kept of the events so far goes on with each event, and what is refused has its reason.
use Rattle.sftp_audit.proofs.Imports.{◌≡◌, ℕ, ◌<◌, true, false, List, [], ◌∷◌, ◌++◌, length, Option, None, refl, sym, ap, subst, ◌∙◌, append_assoc, append-nil, arith, map-append, option_map}
use Rattle.sftp_audit.proofs.Imports.{length-map, length-append}
use Rattle.std.specs.List.{AllByRecursion}
use Rattle.sftp_packets.specs.declared.packets.Request.{Request}
use Rattle.sftp_packets.specs.declared.packets.Reply.{Reply}
use Rattle.sftp_streams.specs.Streams.{one_more}
use Rattle.sftp_transcript.specs.declared.events.Event.{Event}
use Rattle.sftp_transcript.specs.declared.events.Event.TheVariants.{Asked, Replied}
use Rattle.sftp_transcript.specs.Explained.{window, Run, leading_pairs, exchanges_of as events_exchanges, in_window, turn_after}
use Rattle.sftp_transcript.specs.Sound.{first_number, number_after_events}
use Rattle.sftp_together.specs.declared.exchanges.TimedExchange.{TimedExchange}
use Rattle.sftp_together.specs.declared.exchanges.Stamp.{Stamp}
use Rattle.sftp_audit.specs.declared.errors.Refusal.{Refusal}
use Rattle.sftp_audit.specs.declared.errors.Refusal.TheVariants as refusals
use Rattle.sftp_audit.specs.declared.exchanges.Exchange.{Exchange}
use Rattle.sftp_audit.specs.declared.exchanges.RecordedReply.{RecordedReply}
use Rattle.sftp_audit.specs.Auditor.{Audited, StandsFor}
use Rattle.sftp_audit.specs.Exchanges.{recorded_exchanges, AreAnswered, with_reply}
unfoldable use Rattle.sftp_audit.specs.Exchanges.{unsettled, is_awaited, exchanges_from}
unfoldable use Rattle.sftp_audit.specs.Trees.{AreApart}
use Rattle.sftp_audit.specs.Trees.{RefusesRequest, RefusesReply, starts_answered}
use Rattle.sftp_audit.proofs.auditing.{recorded-asked, recorded-replied, unsettled-answered, unsettled-asked, with_reply-append, with_reply-answered, is_awaited-unsettled, unsettled-here}
use Rattle.sftp_audit.proofs.auditing.Turns.{in_turn-asked, in_turn-replied, window-asked, window-replied, waits_if_open, closed_if_none}
use Rattle.sftp_audit.proofs.auditing.Standing.{refused-asked, refused-replied}
use Rattle.sftp_sets.specs.declared.waiting.Stamped.{Stamped}
use Rattle.sftp_sets.specs.declared.waiting.Waiting.{Waiting}
use Rattle.sftp_sets.specs.declared.collecting.Collected.{Collected}
use Rattle.sftp_sets.specs.Sessions.{any, time_of}
use Rattle.sftp_sets.specs.Collecting.{Holds, AreMoved, MovesFirst, Notes, HasReason, RefusesId, exchange_of, exchanges_of, reply_of, untimed, untimed_all, timed_of, AreTimely, AreWaitingTimely, IsTimely, IsReplyTimely}
use Rattle.sftp_sets.proofs.Places.{apart-asked, apart-replied, apart-behind}

-- ---- a run in which every reply is right

pub run-any : (pairs : List (Request × Reply)) → Run any tt pairs tt
run-any [] = refl
run-any (pair ∷ pairs) = (tt, tt, run-any pairs)

-- ---- exchanges with their replies

pub answered-untimed : (done : List TimedExchange) → AreAnswered (untimed_all done)
answered-untimed [] = tt
answered-untimed (x ∷ done) = (refl, answered-untimed done)

-- ---- as an auditor of a judge to whom every reply is right would keep it

abbrev pub kept_as : Collected → Audited (Unit {0})
kept_as c = record {
  state = tt;
  kept = exchanges_of c.kept.items;
  number = c.number;
  refusal = None;
  follows = true;
}

-- ---- settled

pub moved_start : (done : List TimedExchange) (kept : List Waiting) → AreMoved done kept done kept
moved_start done kept = record {
  moved = [];
  done = sym (append-nil done);
  kept = refl;
  timely = λ start entries all. (tt, all);
}

timely-append : (start : ℕ) (entries : List ℕ) (xs : List TimedExchange) (x : TimedExchange) → AreTimely start entries xs
    → IsTimely start entries x.asked × IsTimely start entries x.replied → AreTimely start entries (xs ++ x ∷ [])
timely-append start entries [] x all one = (one, tt)
timely-append start entries (y ∷ xs) x all one = (all.0, timely-append start entries xs x all.1 one)

pub moved_more : (done : List TimedExchange) (kept : List Waiting) (done_now : List TimedExchange) (kept_now : List Waiting)
    (done_then : List TimedExchange) (kept_then : List Waiting) → AreMoved done kept done_now kept_now
    → MovesFirst done_now kept_now done_then kept_then → AreMoved done kept done_then kept_then
moved_more done kept done_now kept_now done_then kept_then so_far m =
    let x = timed_of m.first m.stamped in
    let same : exchange_of m.first ≡ untimed x =
    ap (λ (o : Option Stamped). record {
      request = m.first.request;
      number = m.first.asked.number;
      reply = option_map reply_of o;
    }) m.answered in
    record {
      moved = so_far.moved ++ x ∷ [];
      done = m.done ∙ ap (λ (xs : List TimedExchange). xs ++ x ∷ []) so_far.done
          ∙ append_assoc done so_far.moved (x ∷ []);
      kept = so_far.kept ∙ ap (λ (xs : List Waiting). untimed_all so_far.moved ++ exchanges_of xs) m.kept
          ∙ ap (λ (e : Exchange). untimed_all so_far.moved ++ e ∷ exchanges_of kept_then) same
          ∙ sym (append_assoc (untimed_all so_far.moved) (untimed x ∷ []) (exchanges_of kept_then))
          ∙ ap (λ (xs : List Exchange). xs ++ exchanges_of kept_then)
          (sym (map-append untimed so_far.moved (x ∷ [])));
      timely = λ start entries all.
          let both = so_far.timely start entries all in
          let later = subst (AreWaitingTimely start entries) m.kept both.1 in (
            timely-append start entries so_far.moved x both.0
                (later.0.0, subst (IsReplyTimely start entries) m.answered later.0.1),
            later.1,
          );
    }

pub waits_first : (kept : List Waiting) → starts_answered (exchanges_of kept) ≡ false
    → unsettled (exchanges_of kept) ≡ exchanges_of kept
unfolding unsettled
waits_first [] waits = refl
waits_first (w ∷ kept) waits = unsettled-here (exchange_of w) (exchanges_of kept) waits

module _ (start : ℕ) (entries : List ℕ) where
  -- what is kept are the exchanges from the first without a reply on
  unsettled-kept : (events : List Event) (c : Collected) → Holds start entries events c
      → unsettled (recorded_exchanges events) ≡ exchanges_of c.kept.items
  unsettled-kept events c h =
      ap unsettled h.all
      ∙ unsettled-answered (untimed_all c.done.items) (exchanges_of c.kept.items) (answered-untimed c.done.items)
      ∙ h.first_waits

  pub stands : (events : List Event) (c : Collected) → Holds start entries events c
      → StandsFor any tt events (kept_as c)
  stands events c h = record {
    sound = record {
      in_turn = h.in_turn;
      within_window = h.within_window;
      run = run-any (leading_pairs (events_exchanges events));
    };
    kept = sym (unsettled-kept events c h);
    number = h.number;
    unrefused = refl;
    followed = refl;
  }

  awaited-kept : (events : List Event) (c : Collected) (id : ℕ) → Holds start entries events c
      → is_awaited id (recorded_exchanges events) ≡ is_awaited id (exchanges_of c.kept.items)
  awaited-kept events c id h =
      sym (is_awaited-unsettled id (recorded_exchanges events)) ∙ ap (is_awaited id) (unsettled-kept events c h)

  -- ---- nothing yet

  pub holds-start : (c : Collected) → c.done.items ≡ [] → c.kept.items ≡ [] → c.number ≡ first_number
      → Holds start entries [] c
  unfolding exchanges_from unsettled AreApart in_window turn_after
  holds-start c done kept number = record {
    in_turn = λ id broke. absurd cc;
    within_window = refl;
    all = rw (done, kept) refl;
    first_waits = rw kept refl;
    apart = rw kept tt;
    number = number;
    done_timely = rw done tt;
    kept_timely = rw kept tt;
  }

  -- ---- a request more

  all-append : (P : Waiting → Type 0) (xs : List Waiting) (x : Waiting) → AllByRecursion P xs → P x
      → AllByRecursion P (xs ++ x ∷ [])
  all-append P [] x all one = (one, tt)
  all-append P (y ∷ xs) x all one = (all.0, all-append P xs x all.1 one)

  number-more : (events : List Event) (event : Event)
      → one_more (number_after_events events) ≡ number_after_events (events ++ event ∷ [])
  number-more events event = let l = length-append events (event ∷ []) in omega (arith, l)

  pub notes-asked : (request : Request) (stamp : Stamp) (old new : Collected)
      → stamp ≡ record { number = old.number; time = time_of start entries old.number }
      → is_awaited request.id (exchanges_of old.kept.items) ≡ false → length old.kept.items < window
      → new.kept.items ≡ old.kept.items ++ record { request = request; asked = stamp; replied = None } ∷ []
      → new.done.items ≡ old.done.items → new.number ≡ one_more old.number
      → Notes start entries old (Asked request) new
  notes-asked request stamp old new stamped free room kept done number events h =
      let w : Waiting = record { request = request; asked = stamp; replied = None } in
      let x = exchange_of w in
      let ks = exchanges_of old.kept.items in
      let more : exchanges_of new.kept.items ≡ ks ++ x ∷ [] =
      ap exchanges_of kept ∙ map-append exchange_of old.kept.items (w ∷ []) in
      let asked_at : stamp.number ≡ number_after_events events = ap (λ (s : Stamp). s.number) stamped ∙ h.number in
      let shut = closed_if_none events request.id h.in_turn (awaited-kept events old request.id h ∙ free) in
      record {
        in_turn = in_turn-asked events request h.in_turn shut;
        within_window = window-asked events request h.within_window
            (omega (arith, ap length (unsettled-kept events old h), length-map old.kept.items exchange_of, room));
        all = recorded-asked events request ∙ ap (λ (xs : List Exchange). xs
            ++ record { request = request; number = number_after_events events; reply = None } ∷ []) h.all
            ∙ append_assoc (untimed_all old.done.items) ks _
            ∙ rw (done, more, asked_at) refl;
        first_waits = rw more (unsettled-asked ks x refl ∙ ap (λ (xs : List Exchange). xs ++ x ∷ []) h.first_waits);
        apart = rw more (apart-asked ks x h.apart free);
        number = number ∙ ap one_more h.number ∙ number-more events (Asked request);
        done_timely = rw done h.done_timely;
        kept_timely = rw kept (all-append _ old.kept.items w h.kept_timely (rw stamped refl, tt));
      }

  pub refused-id : (request : Request) (old : Collected) (refusal : Refusal)
      → RefusesId (exchanges_of old.kept.items) request.id old.number refusal
      → HasReason start entries old (Asked request) refusal
  refused-id request old refusal why events h =
      refused-asked any request (kept_as old) refusal (as_request refusal why) tt events (stands events old h)
    where
      as_request : (refusal : Refusal) → RefusesId (exchanges_of old.kept.items) request.id old.number refusal
          → RefusesRequest (exchanges_of old.kept.items) request old.number refusal
      as_request (refusals.IdInUse place) why = why
      as_request (refusals.Window place) why = why
      as_request refusals.NoMemory why = why
      as_request other why = absurd why

  -- ---- a reply more

  timely-both : (xs ys : List TimedExchange) → AreTimely start entries xs → AreTimely start entries ys
      → AreTimely start entries (xs ++ ys)
  timely-both [] ys first second = second
  timely-both (x ∷ xs) ys first second = (first.0, timely-both xs ys first.1 second)

  pub notes-replied : (reply : Reply) (stamp : Stamp) (old new : Collected) (mid : List Waiting)
      → stamp ≡ record { number = old.number; time = time_of start entries old.number }
      → is_awaited reply.id (exchanges_of old.kept.items) ≡ true
      → (AreApart (exchanges_of old.kept.items)
      → exchanges_of mid ≡ with_reply (record { reply = reply; number = stamp.number }) (exchanges_of old.kept.items))
      → ((start : ℕ) (entries : List ℕ) → IsTimely start entries stamp → AreWaitingTimely start entries old.kept.items
      → AreWaitingTimely start entries mid)
      → AreMoved old.done.items mid new.done.items new.kept.items
      → unsettled (exchanges_of new.kept.items) ≡ exchanges_of new.kept.items
      → new.number ≡ one_more old.number → Notes start entries old (Replied reply) new
  notes-replied reply stamp old new mid stamped waits with timely moved first number events h =
      let r : RecordedReply = record { reply = reply; number = stamp.number } in
      let ks = exchanges_of old.kept.items in
      let asked_at : stamp.number ≡ number_after_events events = ap (λ (s : Stamp). s.number) stamped ∙ h.number in
      let turn = waits_if_open events reply.id h.in_turn (awaited-kept events old reply.id h ∙ waits) in
      let there = with h.apart in
      let apart_mid : AreApart (exchanges_of mid) = rw there (apart-replied r ks h.apart) in
      let times = moved.timely start entries (timely start entries (rw stamped refl) h.kept_timely) in
      record {
        in_turn = in_turn-replied events reply h.in_turn turn;
        within_window = window-replied events reply ∙ h.within_window;
        all = recorded-replied events reply
            ∙ ap (λ (n : ℕ). with_reply (record { reply = reply; number = n }) (recorded_exchanges events)) (sym asked_at)
            ∙ ap (with_reply r) h.all
            ∙ with_reply-append r (untimed_all old.done.items) ks
            ∙ ap (λ (xs : List Exchange). xs ++ with_reply r ks)
            (with_reply-answered r (untimed_all old.done.items) (answered-untimed old.done.items))
            ∙ ap (λ (xs : List Exchange). untimed_all old.done.items ++ xs) (sym there ∙ moved.kept)
            ∙ sym (append_assoc (untimed_all old.done.items) (untimed_all moved.moved) (exchanges_of new.kept.items))
            ∙ ap (λ (xs : List Exchange). xs ++ exchanges_of new.kept.items)
            (sym (map-append untimed old.done.items moved.moved) ∙ ap untimed_all (sym moved.done));
        first_waits = first;
        apart = apart-behind (untimed_all moved.moved) (exchanges_of new.kept.items)
            (subst AreApart moved.kept apart_mid);
        number = number ∙ ap one_more h.number ∙ number-more events (Replied reply);
        done_timely = rw moved.done (timely-both old.done.items moved.moved h.done_timely times.0);
        kept_timely = times.1;
      }

  pub refused-reply : (reply : Reply) (stamp : Stamp) (old : Collected) (refusal : Refusal)
      → stamp ≡ record { number = old.number; time = time_of start entries old.number }
      → RefusesReply (exchanges_of old.kept.items) (record { reply = reply; number = stamp.number }) refusal
      → HasReason start entries old (Replied reply) refusal
  refused-reply reply stamp old refusal stamped why events h =
      refused-replied any reply (kept_as old) refusal
      (subst (λ (s : Stamp). RefusesReply (exchanges_of old.kept.items)
      (record { reply = reply; number = s.number }) refusal) stamped why)
      tt events (stands events old h)
