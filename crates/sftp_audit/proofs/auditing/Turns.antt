-- Events that are in turn and in time, and what their exchanges say of them.
use Rattle.sftp_audit.proofs.Imports.{if◌then◌else◌, ◌≡◌, ◌==◌, ◌≢◌, ℕ, suc, ◌+◌, ◌<◌, ◌≤◌, Bool, true, false, List, []}
use Rattle.sftp_audit.proofs.Imports.{◌∷◌, ◌++◌, is_some, IsTrue, length, refl, sym, ap, subst, ◌∙◌, append_assoc}
use Rattle.sftp_audit.proofs.Imports.{arith, eqb-true, eq-eqb, and_parts, ltb-true, cases_Bool, append-nil, Request}
use Rattle.sftp_audit.proofs.Imports.{Reply, Event, Asked, Replied, Turn, closed, waiting, broken, turn_after}
use Rattle.sftp_audit.proofs.Imports.{in_window, requests_before_reply, window, StepOf, Run, InTurn, IsWaiting}
use Rattle.sftp_audit.proofs.Imports.{next_recorded, exchanges_from, recorded_exchanges, unsettled, is_awaited}
use Rattle.std.proofs.lemmas.Bool.{and_from, lt-ltb}
use Rattle.sftp_streams.specs.Streams.{one_more}
use Rattle.sftp_transcript.specs.Explained.{after_event}
use Rattle.sftp_transcript.proofs.pairing.{cond_alike}
use Rattle.sftp_audit.proofs.auditing.{recorded-asked, recorded-replied}
use Rattle.sftp_audit.proofs.auditing.{unsettled-within, is_awaited-append, is_awaited-replied}

-- ---- turns over two parts

pub turn_after-append : (id : ℕ) (turn : Turn) (xs ys : List Event)
    → turn_after id turn (xs ++ ys) ≡ turn_after id (turn_after id turn xs) ys
unfolding turn_after
turn_after-append id turn [] ys = refl
turn_after-append id turn (event ∷ xs) ys = turn_after-append id (after_event id event turn) xs ys

-- what came out of turn once is never put right
pub broken_stays : (id : ℕ) (events : List Event) → turn_after id broken events ≡ broken
unfolding turn_after
broken_stays id [] = refl
broken_stays id (Asked request ∷ events) = rw (cond_alike (request.id == id)) (broken_stays id events)
broken_stays id (Replied reply ∷ events) = rw (cond_alike (reply.id == id)) (broken_stays id events)

-- the turn after one event more
turn_after-event : (id : ℕ) (events : List Event) (event : Event)
    → turn_after id closed (events ++ event ∷ []) ≡ after_event id event (turn_after id closed events)
unfolding turn_after
turn_after-event id events event = turn_after-append id closed events (event ∷ [])

-- the front of what is in turn is in turn
pub in_turn-front : (xs ys : List Event) → InTurn (xs ++ ys) → InTurn xs
in_turn-front xs ys whole id breaks =
    let stays = ap (λ (turn : Turn). turn_after id turn ys) breaks ∙ broken_stays id ys in
    whole id (turn_after-append id closed xs ys ∙ stays)

-- ---- out of turn

pub one_more_event : (events : List Event) (event : Event) (more : List Event)
    → (events ++ event ∷ []) ++ more ≡ events ++ event ∷ more
one_more_event events event more = append_assoc events (event ∷ []) more

-- in turn however it is split
split_later : (events : List Event) (event : Event) (more : List Event) → InTurn (events ++ event ∷ more)
    → InTurn ((events ++ event ∷ []) ++ more)
split_later events event more in_turn = subst InTurn (sym (one_more_event events event more)) in_turn

-- no session goes on after an event that comes out of turn
out_of_turn : (id : ℕ) (events : List Event) (event : Event) (more : List Event) (turn : Turn)
    → turn_after id closed events ≡ turn → after_event id event turn ≡ broken → InTurn (events ++ event ∷ more) → ⊥
out_of_turn id events event more turn is breaks in_turn =
    in_turn-front (events ++ event ∷ []) more (split_later events event more in_turn) id
    (turn_after-event id events event ∙ ap (λ (t : Turn). after_event id event t) is ∙ breaks)

-- a request of an id that waits
pub second_request : (events : List Event) (request : Request) (more : List Event)
    → turn_after request.id closed events ≡ waiting → InTurn (events ++ Asked request ∷ more) → ⊥
second_request events request more waits =
    out_of_turn request.id events (Asked request) more waiting waits
    (ap (λ (b : Bool). if b then broken else waiting) (eq-eqb request.id request.id refl))

-- a reply of an id that does not wait
pub reply_unasked : (events : List Event) (reply : Reply) (more : List Event)
    → turn_after reply.id closed events ≡ closed → InTurn (events ++ Replied reply ∷ more) → ⊥
reply_unasked events reply more shut =
    out_of_turn reply.id events (Replied reply) more closed shut
    (ap (λ (b : Bool). if b then broken else closed) (eq-eqb reply.id reply.id refl))

-- ---- whose turn it is, by the exchanges

abbrev turn_if : Bool → Turn
turn_if opened = if opened then waiting else closed

-- an event breaks the turn, or does to it what it does to the exchanges
one_event : (id : ℕ) (events : List Event) (event : Event)
    → after_event id event (turn_if (is_awaited id (recorded_exchanges events))) ≢ broken
    → after_event id event (turn_if (is_awaited id (recorded_exchanges events)))
    ≡ turn_if (is_awaited id (recorded_exchanges (events ++ event ∷ [])))
unfolding is_awaited
one_event id events (Asked request) unbroken = grind (arith, cases_Bool, recorded-asked, is_awaited-append)
one_event id events (Replied reply) unbroken = grind (arith, cases_Bool, recorded-replied, is_awaited-replied)

abbrev IsTurn : ℕ → List Event → Type 0
IsTurn id events = turn_after id closed events ≡ turn_if (is_awaited id (recorded_exchanges events))

turn_behind : (id : ℕ) (seen more : List Event) → IsTurn id seen → InTurn (seen ++ more) → IsTurn id (seen ++ more)
turn_behind id seen [] is in_turn = subst (IsTurn id) (sym (append-nil seen)) is
turn_behind id seen (event ∷ more) is in_turn =
    let later = split_later seen event more in_turn in
    let now = turn_after-event id seen event ∙ ap (after_event id event) is in
    let next : IsTurn id (seen ++ event ∷ []) =
    now ∙ one_event id seen event (λ breaks. in_turn-front (seen ++ event ∷ []) more later id (now ∙ breaks)) in
    subst (IsTurn id) (one_more_event seen event more) (turn_behind id (seen ++ event ∷ []) more next later)

turn_is : (events : List Event) (id : ℕ) → InTurn events → IsTurn id events
unfolding turn_after exchanges_from is_awaited
turn_is events id in_turn = turn_behind id [] events refl in_turn

pub waits_if_open : (events : List Event) (id : ℕ) → InTurn events → is_awaited id (recorded_exchanges events) ≡ true
    → IsWaiting events id
waits_if_open events id in_turn opened = turn_is events id in_turn ∙ ap turn_if opened

pub closed_if_none : (events : List Event) (id : ℕ) → InTurn events → is_awaited id (recorded_exchanges events) ≡ false
    → turn_after id closed events ≡ closed
closed_if_none events id in_turn none = turn_is events id in_turn ∙ ap turn_if none

pub none_if_closed : (events : List Event) (id : ℕ) → InTurn events → turn_after id closed events ≡ closed
    → is_awaited id (recorded_exchanges events) ≡ false
none_if_closed events id in_turn shut = grind (arith, cases_Bool, turn_is events id in_turn)

-- ---- one event more, in turn

pub in_turn-asked : (events : List Event) (request : Request) → InTurn events
    → turn_after request.id closed events ≡ closed → InTurn (events ++ Asked request ∷ [])
in_turn-asked events request in_turn shut id breaks =
    grind (arith, cases_Bool, eqb-true, turn_after-event id events (Asked request), in_turn id)

pub in_turn-replied : (events : List Event) (reply : Reply) → InTurn events → IsWaiting events reply.id
    → InTurn (events ++ Replied reply ∷ [])
in_turn-replied events reply in_turn waits id breaks =
    grind (arith, cases_Bool, eqb-true, turn_after-event id events (Replied reply), in_turn id)

-- ---- one event more, in time

-- what is asked before the reply to a request: all that is asked, where the reply is not there yet
before_reply : (id number : ℕ) (xs ys : List Event)
    → requests_before_reply id (xs ++ ys) ≡ (if is_some (next_recorded id number xs) then requests_before_reply id xs
    else length (exchanges_from number xs) + requests_before_reply id ys)
unfolding next_recorded exchanges_from requests_before_reply
before_reply id number [] ys = grind arith
before_reply id number (Asked request ∷ xs) ys = grind (arith, cases_Bool, before_reply id (one_more number) xs ys)
before_reply id number (Replied reply ∷ xs) ys = grind (arith, cases_Bool, before_reply id (one_more number) xs ys)

-- a request is in time where fewer than the window are unsettled
in_time : (number : ℕ) (events : List Event) (request : Request) → IsTrue (in_window events)
    → length (unsettled (exchanges_from number events)) < window → IsTrue (in_window (events ++ Asked request ∷ []))
unfolding in_window requests_before_reply exchanges_from unsettled
in_time number [] request inside few = refl
in_time number (Replied reply ∷ events) request inside few = in_time (one_more number) events request inside few
in_time number (Asked first ∷ events) request inside few =
    grind (
      arith,
      cases_Bool,
      and_parts,
      and_from,
      lt-ltb,
      unsettled-within,
      before_reply first.id (one_more number) events (Asked request ∷ []),
      in_time (one_more number) events request,
    )

pub window-asked : (events : List Event) (request : Request) → IsTrue (in_window events)
    → length (unsettled (recorded_exchanges events)) < window → IsTrue (in_window (events ++ Asked request ∷ []))
window-asked events request inside few = in_time _ events request inside few

-- it is late where as many are
late : (number : ℕ) (events : List Event) (request : Request) (more : List Event)
    → window ≤ length (unsettled (exchanges_from number events)) → IsTrue (in_window (events ++ Asked request ∷ more))
    → ⊥
unfolding in_window requests_before_reply exchanges_from unsettled
late number [] request more many inside = absurd (omega (arith, many))
late number (Replied reply ∷ events) request more many inside = late (one_more number) events request more many inside
late number (Asked first ∷ events) request more many inside =
    grind (
      arith,
      cases_Bool,
      and_parts,
      ltb-true,
      before_reply first.id (one_more number) events (Asked request ∷ more),
      late (one_more number) events request more,
    )

pub window-full : (events : List Event) (request : Request) → window ≤ length (unsettled (recorded_exchanges events))
    → (more : List Event) → IsTrue (in_window (events ++ Asked request ∷ more)) → ⊥
window-full events request many more inside = late _ events request more many inside

-- a reply is never late
before_reply-replied : (id : ℕ) (events : List Event) (reply : Reply)
    → requests_before_reply id (events ++ Replied reply ∷ []) ≡ requests_before_reply id events
unfolding requests_before_reply
before_reply-replied id [] reply = grind (arith, cases_Bool)
before_reply-replied id (Asked request ∷ events) reply = ap suc (before_reply-replied id events reply)
before_reply-replied id (Replied given ∷ events) reply = simp (before_reply-replied id events reply)

pub window-replied : (events : List Event) (reply : Reply)
    → in_window (events ++ Replied reply ∷ []) ≡ in_window events
unfolding in_window
window-replied [] reply = refl
window-replied (Asked request ∷ events) reply =
    simp (before_reply-replied request.id events reply, window-replied events reply)
window-replied (Replied given ∷ events) reply = window-replied events reply

-- ---- runs of two parts

pub run-append : {S : Type 0} (step : StepOf S) (s : S) (xs : List (Request × Reply)) (mid : S)
    (ys : List (Request × Reply)) (end : S) → Run step s xs mid → Run step mid ys end → Run step s (xs ++ ys) end
run-append step s [] mid ys end first second = subst (λ m. Run step m ys end) first second
run-append step s (pair ∷ xs) mid ys end first second =
    (first.0, first.1, run-append step first.0 xs mid ys end first.2 second)

pub run-split : {S : Type 0} (step : StepOf S) (s : S) (xs ys : List (Request × Reply)) (end : S)
    → Run step s (xs ++ ys) end → (mid : S) × Run step s xs mid × Run step mid ys end
run-split step s [] ys end run = (s, refl, run)
run-split step s (pair ∷ xs) ys end run =
    let later = run-split step run.0 xs ys end run.2 in
    (later.0, (run.0, run.1, later.1), later.2)
