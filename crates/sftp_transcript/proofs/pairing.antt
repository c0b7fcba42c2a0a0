use Rattle.sftp_transcript.proofs.Imports.{◌≡◌, ◌==◌, ◌||◌, ℕ, Bool, true, false, List, [], ◌∷◌, refl, subst}
use Rattle.sftp_transcript.proofs.Imports.{eqb-true, or_parts, list_any, AllByRecursion, Event, Asked, Replied, ◌&&◌}
use Rattle.sftp_transcript.proofs.Imports.{nat_lt, suc, ◌+◌, ◌<◌, ◌≤◌, cond, ◌++◌, Some, None, length, sym, ap, ◌∙◌}
use Rattle.sftp_transcript.proofs.Imports.{append_assoc, arith, inl, inr, zero-add, le-ltb, ltb-true, length-append}
use Rattle.sftp_transcript.proofs.Imports.{eq-eqb, append-nil}
use Rattle.sftp_transcript.specs.Explained.{Turn, closed, turn_after, after_event, Matching, waiting, broken}
use Rattle.sftp_transcript.specs.Explained.{next_reply, exchanges_of, requests_before_reply, in_window, window}
use Rattle.sftp_transcript.specs.Explained.{after_request, leading_pairs, StepOf, Explained}
use Rattle.std.proofs.lemmas.Bool.{and_parts, and_from, or_from, eqb-false, ne_eqb, lt-ltb, cases_Bool, both_ways}
use Rattle.sftp_packets.specs.declared.packets.Reply.{Reply}
use Rattle.sftp_packets.specs.declared.packets.Request.{Request}
use Rattle.sftp_transcript.specs.Explained.{Exchange, with_replies, is_open, turn_of, AreApart, keeps_window, StandsFor}
use Rattle.sftp_transcript.specs.Explained.{IsAnswered, IsComplete}
use mathlib.Core.Bool.{or_assoc, and_assoc, or-false, and-true}
use Rattle.sftp_transcript.specs.Sound.{InTurn, IsWaiting, Sound}

-- ==== Turns are judged by the ids that occur.

abbrev pub id_of : Event → ℕ
id_of (Asked request) = request.id
id_of (Replied reply) = reply.id

-- the ids that occur
abbrev pub ids_of : List Event → List ℕ
ids_of [] = []
ids_of (event ∷ events) = id_of event ∷ ids_of events

-- an event of another id leaves the turn
other_event : (id : ℕ) (event : Event) (turn : Turn) → (id_of event == id) ≡ false → after_event id event turn ≡ turn
other_event id (Asked request) turn other = rw other refl
other_event id (Replied reply) turn other = rw other refl

-- so do events that are all of other ids
pub turn_after-others : (id : ℕ) (turn : Turn) (events : List Event) → list_any (λ i. i == id) (ids_of events) ≡ false
    → turn_after id turn events ≡ turn
unfolding turn_after
turn_after-others id turn [] others = refl
turn_after-others id turn (event ∷ events) others =
    let parts = or_parts (id_of event == id) (list_any (λ i. i == id) (ids_of events)) others in
    rw (other_event id event turn parts.0) (turn_after-others id turn events parts.1)

-- what holds of each is so for one that occurs
of_one : (P : ℕ → Type 0) (id : ℕ) (ids : List ℕ) → AllByRecursion P ids → list_any (λ i. i == id) ids ≡ true → P id
of_one P id [] all occurs = absurd cc
of_one P id (i ∷ ids) all occurs = by (of_one P id ids all.1) (i == id) refl
  where
    by : (list_any (λ j. j == id) ids ≡ true → P id) → (b : Bool) → (i == id) ≡ b → P id
    by others true is = subst P (eqb-true i id is) all.0
    by others false is = others (let e : (false || list_any (λ j. j == id) ids) ≡ true = rw is at occurs in e)

-- where the turns of the ids that occur are closed, those of all are
pub Matching-from_ids : (events : List Event)
    → AllByRecursion (λ id. turn_after id closed events ≡ closed) (ids_of events) → Matching events
Matching-from_ids events all id = by (list_any (λ i. i == id) (ids_of events)) refl
  where
    by : (b : Bool) → list_any (λ i. i == id) (ids_of events) ≡ b → turn_after id closed events ≡ closed
    by true occurs = of_one (λ i. turn_after i closed events ≡ closed) id (ids_of events) all occurs
    by false others = turn_after-others id closed events others

-- ==== The ledger goes on with each event, and an event out of turn or out of time ends every explanation.

-- ---- tests

flipped : (a b : ℕ) → (a == b) ≡ false → (b == a) ≡ false
flipped a b other = ne_eqb b a (λ e. eqb-false a b other (sym e))

pub cond_alike : (b : Bool) → cond b broken broken ≡ broken
cond_alike true = refl
cond_alike false = refl

-- ---- how each word goes over two parts of a ledger

with_replies-append : (xs ys : List Exchange) (more : List Event)
    → with_replies (xs ++ ys) more ≡ with_replies xs more ++ with_replies ys more
unfolding with_replies
with_replies-append [] ys more = refl
with_replies-append ((request, None) ∷ xs) ys more = simp (with_replies-append xs ys more)
with_replies-append ((request, Some reply) ∷ xs) ys more = simp (with_replies-append xs ys more)

pub is_open-append : (id : ℕ) (xs ys : List Exchange) → is_open id (xs ++ ys) ≡ (is_open id xs || is_open id ys)
unfolding is_open
is_open-append id [] ys = refl
is_open-append id ((request, None) ∷ xs) ys = simp (or_assoc, is_open-append id xs ys)
is_open-append id ((request, Some reply) ∷ xs) ys = is_open-append id xs ys

pub turn_of-open : (ledger : List Exchange) (id : ℕ) → is_open id ledger ≡ true → turn_of ledger id ≡ waiting
turn_of-open ledger id e = ap (λ (b : Bool). cond b waiting closed) e

pub turn_of-closed : (ledger : List Exchange) (id : ℕ) → is_open id ledger ≡ false → turn_of ledger id ≡ closed
turn_of-closed ledger id e = ap (λ (b : Bool). cond b waiting closed) e

-- ---- nothing yet

pub stands_from_start : StandsFor [] []
unfolding with_replies is_open AreApart keeps_window
stands_from_start = grind arith

-- ---- one request more

with_replies-asked : (ledger : List Exchange) (request : Request) (more : List Event)
    → with_replies ledger (Asked request ∷ more) ≡ with_replies ledger more
unfolding with_replies next_reply
with_replies-asked [] request more = refl
with_replies-asked ((first, None) ∷ ledger) request more = simp (with_replies-asked ledger request more)
with_replies-asked ((first, Some reply) ∷ ledger) request more = simp (with_replies-asked ledger request more)

asked_turn : (ledger : List Exchange) (request : Request) (id : ℕ) → is_open request.id ledger ≡ false
    → after_event id (Asked request) (turn_of ledger id) ≡ turn_of (ledger ++ (request, None) ∷ []) id
unfolding is_open
asked_turn ledger request id none =
    grind (arith, cases_Bool, eqb-true, is_open-append, turn_of-closed, turn_of-open, or-false)

keeps_window-asked : (ledger : List Exchange) (request : Request) (more : List Event)
    → keeps_window (ledger ++ (request, None) ∷ []) more ≡
    (keeps_window ledger (Asked request ∷ more) && nat_lt (requests_before_reply request.id more) window)
unfolding keeps_window requests_before_reply
keeps_window-asked [] request more = rw zero-add (and-true (nat_lt (requests_before_reply request.id more) window))
keeps_window-asked ((first, None) ∷ ledger) request more =
    let later : length (ledger ++ (request, None) ∷ []) + requests_before_reply first.id more ≡ length ledger + suc (requests_before_reply first.id more) = omega (arith, length-append ledger ((request, None) ∷ [])) in
    rw (later, keeps_window-asked ledger request more)
    (sym (and_assoc (nat_lt (length ledger + suc (requests_before_reply first.id more)) window) (keeps_window ledger (Asked request ∷ more)) (nat_lt (requests_before_reply request.id more) window)))
keeps_window-asked ((first, Some reply) ∷ ledger) request more = keeps_window-asked ledger request more

pub AreApart-asked : (ledger : List Exchange) (request : Request) → AreApart ledger
    → is_open request.id ledger ≡ false → AreApart (ledger ++ (request, None) ∷ [])
unfolding AreApart is_open
AreApart-asked [] request apart none = (refl, tt)
AreApart-asked ((first, None) ∷ ledger) request apart none =
    let parts = or_parts (first.id == request.id) (is_open request.id ledger) none in
    let others : is_open first.id (ledger ++ (request, None) ∷ []) ≡ false =
    rw (is_open-append first.id ledger ((request, None) ∷ []), apart.0, flipped first.id request.id parts.0) refl in
    (others, AreApart-asked ledger request apart.1 parts.1)
AreApart-asked ((first, Some reply) ∷ ledger) request apart none = AreApart-asked ledger request apart none

pub stands_asked : (ledger : List Exchange) (seen : List Event) (request : Request) → StandsFor ledger seen
    → is_open request.id ledger ≡ false → keeps_window (ledger ++ (request, None) ∷ []) [] ≡ true
    → StandsFor (ledger ++ (request, None) ∷ []) (seen ++ Asked request ∷ [])
unfolding with_replies exchanges_of turn_after in_window
stands_asked ledger seen request stands none kept = record {
  exchanges_are = λ more.
      rw (append_assoc seen (Asked request ∷ []) more, stands.exchanges_are (Asked request ∷ more), with_replies-asked ledger request more, with_replies-append ledger ((request, None) ∷ []) more)
      (sym (append_assoc (with_replies ledger more) ((request, next_reply request.id more) ∷ []) (exchanges_of more)));
  turns_are = λ id more.
      rw (append_assoc seen (Asked request ∷ []) more, stands.turns_are id (Asked request ∷ more), asked_turn ledger request id none) refl;
  window_is = λ more.
      rw (append_assoc seen (Asked request ∷ []) more, stands.window_is (Asked request ∷ more), keeps_window-asked ledger request more)
      (sym (and_assoc (keeps_window ledger (Asked request ∷ more)) (nat_lt (requests_before_reply request.id more) window) (in_window more)));
  apart = AreApart-asked ledger request stands.apart none;
  in_time = kept;
}

-- ---- one reply more

-- what comes for another id changes nothing
with_replies-other : (ledger : List Exchange) (reply : Reply) (more : List Event) → is_open reply.id ledger ≡ false
    → with_replies ledger (Replied reply ∷ more) ≡ with_replies ledger more
unfolding with_replies is_open next_reply
with_replies-other [] reply more none = refl
with_replies-other ((first, None) ∷ ledger) reply more none =
    let parts = or_parts (first.id == reply.id) (is_open reply.id ledger) none in
    let other = flipped first.id reply.id parts.0 in
    rw (other, with_replies-other ledger reply more parts.1) refl
with_replies-other ((first, Some given) ∷ ledger) reply more none = simp (with_replies-other ledger reply more none)

keeps_window-other : (ledger : List Exchange) (reply : Reply) (more : List Event) → is_open reply.id ledger ≡ false
    → keeps_window ledger (Replied reply ∷ more) ≡ keeps_window ledger more
unfolding keeps_window is_open requests_before_reply
keeps_window-other [] reply more none = refl
keeps_window-other ((first, None) ∷ ledger) reply more none =
    let parts = or_parts (first.id == reply.id) (is_open reply.id ledger) none in
    let other = flipped first.id reply.id parts.0 in
    rw (other, keeps_window-other ledger reply more parts.1) refl
keeps_window-other ((first, Some given) ∷ ledger) reply more none = keeps_window-other ledger reply more none

length-answered : (front : List Exchange) (request : Request) (reply : Reply) (back : List Exchange)
    → length (front ++ (request, None) ∷ back) ≡ length (front ++ (request, Some reply) ∷ back)
length-answered front request reply back = simp (length-append)

-- of requests that are apart, one that waits is the only one of its id
pub record Alone (front : List Exchange) (request : Request) (back : List Exchange) : Type 0 where
  pub not_before : is_open request.id front ≡ false
  pub not_after : is_open request.id back ≡ false

pub alone : (front : List Exchange) (request : Request) (back : List Exchange)
    → AreApart (front ++ (request, None) ∷ back) → Alone front request back
unfolding AreApart is_open
alone [] request back apart = record { not_before = refl; not_after = apart.0 }
alone ((first, None) ∷ front) request back apart =
    let later = alone front request back apart.1 in
    let joined : (is_open first.id front || ((request.id == first.id) || is_open first.id back)) ≡ false =
    sym (is_open-append first.id front ((request, None) ∷ back)) ∙ apart.0 in
    let split = or_parts (is_open first.id front) ((request.id == first.id) || is_open first.id back) joined in
    let other = or_parts (request.id == first.id) (is_open first.id back) split.1 in
    record { not_before = or_from (first.id == request.id) (is_open request.id front) (flipped request.id first.id other.0) later.not_before; not_after = later.not_after }
alone ((first, Some given) ∷ front) request back apart =
    let later = alone front request back apart in
    record { not_before = later.not_before; not_after = later.not_after }

is_open-answered : (id : ℕ) (front : List Exchange) (request : Request) (reply : Reply) (back : List Exchange)
    → is_open id (front ++ (request, Some reply) ∷ back) ≡ (is_open id front || is_open id back)
unfolding is_open
is_open-answered id front request reply back = is_open-append id front ((request, Some reply) ∷ back)

-- an answer opens nothing
pub still_shut : (id : ℕ) (front : List Exchange) (request : Request) (reply : Reply) (back : List Exchange)
    → is_open id (front ++ (request, None) ∷ back) ≡ false → is_open id (front ++ (request, Some reply) ∷ back) ≡ false
unfolding is_open
still_shut id front request reply back none = grind (arith, is_open-append, or_parts, is_open-answered, or_from)

pub AreApart-answered : (front : List Exchange) (request : Request) (reply : Reply) (back : List Exchange)
    → AreApart (front ++ (request, None) ∷ back) → AreApart (front ++ (request, Some reply) ∷ back)
unfolding AreApart
AreApart-answered [] request reply back apart = apart.1
AreApart-answered ((first, None) ∷ front) request reply back apart =
    (still_shut first.id front request reply back apart.0, AreApart-answered front request reply back apart.1)
AreApart-answered ((first, Some given) ∷ front) request reply back apart =
    AreApart-answered front request reply back apart

with_replies-replied : (front : List Exchange) (request : Request) (reply : Reply) (back : List Exchange)
    (more : List Event) → request.id ≡ reply.id → Alone front request back
    → with_replies (front ++ (request, None) ∷ back) (Replied reply ∷ more) ≡ with_replies
    (front ++ (request, Some reply) ∷ back) more
unfolding with_replies next_reply
with_replies-replied front request reply back more same lone =
    grind (arith, eq-eqb, with_replies-append, with_replies-other)

replied_turn : (front : List Exchange) (request : Request) (reply : Reply) (back : List Exchange) (id : ℕ)
    → request.id ≡ reply.id → Alone front request back
    → after_event id (Replied reply) (turn_of (front ++ (request, None) ∷ back) id) ≡ turn_of
    (front ++ (request, Some reply) ∷ back) id
unfolding is_open
replied_turn front request reply back id same lone = elim (cases_Bool (reply.id == id)) [
  | inl same_id ↦
      let is : request.id ≡ id = same ∙ eqb-true _ _ same_id in
      let before : is_open id front ≡ false = rw is at lone.not_before in
      let after : is_open id back ≡ false = rw is at lone.not_after in
      let opened : is_open id (front ++ (request, None) ∷ back) ≡ true =
      rw (is_open-append id front ((request, None) ∷ back), before, eq-eqb request.id id is) refl in
      let shut : is_open id (front ++ (request, Some reply) ∷ back) ≡ false =
      rw (is_open-answered id front request reply back, before, after) refl in
      rw (same_id, turn_of-open (front ++ (request, None) ∷ back) id opened, turn_of-closed (front ++ (request, Some reply) ∷ back) id shut) refl
  | inr other_id ↦
      let miss : (request.id == id) ≡ false = rw (← same) at other_id in
      let kept : is_open id (front ++ (request, None) ∷ back) ≡ is_open id (front ++ (request, Some reply) ∷ back) =
      rw (is_open-append id front ((request, None) ∷ back), is_open-answered id front request reply back, miss) refl in
      rw (other_id, kept) refl
]

keeps_window-replied : (front : List Exchange) (request : Request) (reply : Reply) (back : List Exchange)
    (more : List Event) → request.id ≡ reply.id → Alone front request back
    → keeps_window (front ++ (request, None) ∷ back) [] ≡ true
    → keeps_window (front ++ (request, None) ∷ back) (Replied reply ∷ more) ≡ keeps_window
    (front ++ (request, Some reply) ∷ back) more
unfolding keeps_window requests_before_reply is_open
keeps_window-replied [] request reply back more same lone kept = grind (arith, eq-eqb, and_parts, keeps_window-other)
keeps_window-replied ((first, None) ∷ front) request reply back more same lone kept =
    let parts = or_parts (first.id == request.id) (is_open request.id front) lone.not_before in
    let miss : (reply.id == first.id) ≡ false = rw (← same) (flipped first.id request.id parts.0) in
    let as_long : length (front ++ (request, None) ∷ back) ≡ length (front ++ (request, Some reply) ∷ back) =
    length-answered front request reply back in
    let later = and_parts (nat_lt (length (front ++ (request, None) ∷ back) + 0) window)
    (keeps_window (front ++ (request, None) ∷ back) []) kept in
    rw (miss, as_long, keeps_window-replied front request reply back more same (record { not_before = parts.1; not_after = lone.not_after }) later.1) refl
keeps_window-replied ((first, Some given) ∷ front) request reply back more same lone kept =
    keeps_window-replied front request reply back more same
    (record { not_before = lone.not_before; not_after = lone.not_after }) kept

in_time-replied : (front : List Exchange) (request : Request) (reply : Reply) (back : List Exchange)
    → keeps_window (front ++ (request, None) ∷ back) [] ≡ true
    → keeps_window (front ++ (request, Some reply) ∷ back) [] ≡ true
unfolding keeps_window
in_time-replied [] request reply back kept = grind (arith, and_parts)
in_time-replied ((first, None) ∷ front) request reply back kept =
    let as_long : length (front ++ (request, None) ∷ back) ≡ length (front ++ (request, Some reply) ∷ back) =
    length-answered front request reply back in
    let parts = and_parts (nat_lt (length (front ++ (request, None) ∷ back) + requests_before_reply first.id []) window)
    (keeps_window (front ++ (request, None) ∷ back) []) kept in
    and_from (nat_lt (length (front ++ (request, Some reply) ∷ back) + requests_before_reply first.id []) window)
    (keeps_window (front ++ (request, Some reply) ∷ back) []) (rw (← as_long) parts.0)
    (in_time-replied front request reply back parts.1)
in_time-replied ((first, Some given) ∷ front) request reply back kept = in_time-replied front request reply back kept

pub stands_replied : (front : List Exchange) (request : Request) (reply : Reply) (back : List Exchange)
    (seen : List Event) → StandsFor (front ++ (request, None) ∷ back) seen → request.id ≡ reply.id
    → StandsFor (front ++ (request, Some reply) ∷ back) (seen ++ Replied reply ∷ [])
unfolding exchanges_of turn_after in_window
stands_replied front request reply back seen stands same =
    let lone = alone front request back stands.apart in
    record {
      exchanges_are = λ more.
          rw (append_assoc seen (Replied reply ∷ []) more, stands.exchanges_are (Replied reply ∷ more), with_replies-replied front request reply back more same lone) refl;
      turns_are = λ id more.
          rw (append_assoc seen (Replied reply ∷ []) more, stands.turns_are id (Replied reply ∷ more), replied_turn front request reply back id same lone) refl;
      window_is = λ more.
          rw (append_assoc seen (Replied reply ∷ []) more, stands.window_is (Replied reply ∷ more), keeps_window-replied front request reply back more same lone stands.in_time) refl;
      apart = AreApart-answered front request reply back stands.apart;
      in_time = in_time-replied front request reply back stands.in_time;
    }

-- ---- what ends every explanation

-- what was in time with a request to come is in time with that request
keeps_window-later : (ledger : List Exchange) (request : Request) (more : List Event)
    → keeps_window ledger (Asked request ∷ more) ≡ true → keeps_window (ledger ++ (request, None) ∷ []) [] ≡ true
unfolding keeps_window requests_before_reply
keeps_window-later [] request more kept = refl
keeps_window-later ((first, None) ∷ ledger) request more kept =
    let parts = and_parts (nat_lt (length ledger + suc (requests_before_reply first.id more)) window)
    (keeps_window ledger (Asked request ∷ more)) kept in
    let near : length (ledger ++ (request, None) ∷ []) + 0 < window =
    omega (arith, ltb-true _ _ parts.0, length-append ledger ((request, None) ∷ [])) in
    and_from (nat_lt (length (ledger ++ (request, None) ∷ []) + 0) window)
    (keeps_window (ledger ++ (request, None) ∷ []) []) (lt-ltb _ _ near)
    (keeps_window-later ledger request more parts.1)
keeps_window-later ((first, Some given) ∷ ledger) request more kept = keeps_window-later ledger request more kept

-- a request that comes too late for one that waits
pub no_late_request : (ledger : List Exchange) (seen : List Event) (request : Request) (more : List Event)
    → StandsFor ledger seen → keeps_window (ledger ++ (request, None) ∷ []) [] ≡ false
    → in_window (seen ++ Asked request ∷ more) ≡ true → ⊥
no_late_request ledger seen request more stands late inside = grind (arith, and_parts, both_ways, keeps_window-later)

-- ---- the end

pub none_open : (ledger : List Exchange) (id : ℕ) → AllByRecursion IsAnswered ledger → is_open id ledger ≡ false
unfolding is_open
none_open [] id answered = refl
none_open ((first, None) ∷ ledger) id answered = absurd answered.0
none_open ((first, Some given) ∷ ledger) id answered = none_open ledger id answered.1

with_replies-answered : (ledger : List Exchange) (more : List Event) → AllByRecursion IsAnswered ledger
    → with_replies ledger more ≡ ledger
unfolding with_replies
with_replies-answered [] more answered = refl
with_replies-answered ((first, None) ∷ ledger) more answered = absurd answered.0
with_replies-answered ((first, Some given) ∷ ledger) more answered =
    ap (λ (l : List Exchange). (first, Some given) ∷ l) (with_replies-answered ledger more answered.1)

-- where each request is answered, the ledger is all that there is to say
pub complete : (ledger : List Exchange) (seen : List Event) → StandsFor ledger seen → AllByRecursion IsAnswered ledger
    → IsComplete ledger seen
unfolding turn_after in_window exchanges_of
complete ledger seen stands answered = grind (arith, append-nil, turn_of-closed, none_open, with_replies-answered)

-- ---- the window, by the oldest request that waits

pub keeps_window-answered : (front back : List Exchange) (more : List Event) → AllByRecursion IsAnswered front
    → keeps_window (front ++ back) more ≡ keeps_window back more
unfolding keeps_window
keeps_window-answered [] back more answered = refl
keeps_window-answered ((first, None) ∷ front) back more answered = absurd answered.0
keeps_window-answered ((first, Some given) ∷ front) back more answered =
    keeps_window-answered front back more answered.1

-- few enough are in time, whoever waits
pub keeps_window-few : (ledger : List Exchange) → length ledger ≤ window → keeps_window ledger [] ≡ true
unfolding keeps_window requests_before_reply
keeps_window-few [] few = refl
keeps_window-few ((first, None) ∷ ledger) few = grind (arith, and_from, lt-ltb, keeps_window-few ledger (omega arith))
keeps_window-few ((first, Some given) ∷ ledger) few = keeps_window-few ledger (omega arith)

-- one that waits has too many after it
pub keeps_window-many : (first : Request) (ledger : List Exchange) → window ≤ length ledger
    → keeps_window ((first, None) ∷ ledger) [] ≡ false
unfolding keeps_window requests_before_reply
keeps_window-many first ledger many = grind (arith, le-ltb)

-- ==== A session whose turns close has a reply to each of its requests.

-- what came out of turn once is never put right
broken_stays : (id : ℕ) (events : List Event) → turn_after id broken events ≡ closed → ⊥
unfolding turn_after
broken_stays id [] e = cc
broken_stays id (Asked request ∷ events) e = by (broken_stays id events) (request.id == id) refl e
  where
    by : (turn_after id broken events ≡ closed → ⊥) → (b : Bool) → (request.id == id) ≡ b
        → turn_after id (after_event id (Asked request) broken) events ≡ closed → ⊥
    by rest true is f = rest (let g : turn_after id broken events ≡ closed = rw is at f in g)
    by rest false is f = rest (let g : turn_after id broken events ≡ closed = rw is at f in g)
broken_stays id (Replied reply ∷ events) e = by (broken_stays id events) (reply.id == id) refl e
  where
    by : (turn_after id broken events ≡ closed → ⊥) → (b : Bool) → (reply.id == id) ≡ b
        → turn_after id (after_event id (Replied reply) broken) events ≡ closed → ⊥
    by rest true is f = rest (let g : turn_after id broken events ≡ closed = rw is at f in g)
    by rest false is f = rest (let g : turn_after id broken events ≡ closed = rw is at f in g)

-- a request that waits for its reply gets one
abbrev IsReplied : ℕ → List Event → Type 0
IsReplied id events = (reply : Reply) × (next_reply id events ≡ Some reply)

waits_for : (id : ℕ) (events : List Event) → turn_after id waiting events ≡ closed → IsReplied id events
unfolding turn_after next_reply
waits_for id [] e = absurd cc
waits_for id (Asked request ∷ events) e = by (waits_for id events) (request.id == id) refl e
  where
    by : (turn_after id waiting events ≡ closed → IsReplied id events) → (b : Bool) → (request.id == id) ≡ b
        → turn_after id (after_event id (Asked request) waiting) events ≡ closed → IsReplied id events
    by rest true is f = absurd (broken_stays id events (let g : turn_after id broken events ≡ closed = rw is at f in g))
    by rest false is f = rest (let g : turn_after id waiting events ≡ closed = rw is at f in g)
waits_for id (Replied reply ∷ events) e = by (waits_for id events) (reply.id == id) refl e
  where
    by : (turn_after id waiting events ≡ closed → IsReplied id events) → (b : Bool) → (reply.id == id) ≡ b
        → turn_after id (after_event id (Replied reply) waiting) events ≡ closed → IsReplied id (Replied reply ∷ events)
    by rest true is f = (reply, rw is refl)
    by rest false is f =
        let found = rest (let g : turn_after id waiting events ≡ closed = rw is at f in g) in (found.0, rw is found.1)

asked_waits : (id : ℕ) (turn : Turn) (events : List Event) → turn_after id (after_request turn) events ≡ closed
    → IsReplied id events
asked_waits id closed events e = waits_for id events e
asked_waits id waiting events e = absurd (broken_stays id events e)
asked_waits id broken events e = absurd (broken_stays id events e)

settled_from : (turns : ℕ → Turn) (events : List Event) → ((id : ℕ) → turn_after id (turns id) events ≡ closed)
    → length (leading_pairs (exchanges_of events)) ≡ length (exchanges_of events)
unfolding turn_after exchanges_of leading_pairs
settled_from turns [] close = refl
settled_from turns (Asked request ∷ events) close =
    let same : (request.id == request.id) ≡ true = eq-eqb request.id request.id refl in
    let found = asked_waits request.id (turns request.id) events
    (let g : turn_after request.id (after_request (turns request.id)) events ≡ closed =
    rw same at (close request.id) in
    g) in
    rw found.1 (ap suc (settled_from (λ id. after_event id (Asked request) (turns id)) events (λ id. close id)))
settled_from turns (Replied reply ∷ events) close =
    settled_from (λ id. after_event id (Replied reply) (turns id)) events (λ id. close id)

-- where turns close, each request has its reply, and all of them run
pub all_settled : (events : List Event) → Matching events
    → length (leading_pairs (exchanges_of events)) ≡ length (exchanges_of events)
all_settled events matching = settled_from (λ id. closed) events matching

-- ==== A session is explained where its events are sound and no request waits.

-- no request waits for its reply
abbrev pub NoneWaits : List Event → Type 0
NoneWaits events = (id : ℕ) → IsWaiting events id → ⊥

closed_by : (turn : Turn) → (turn ≡ broken → ⊥) → (turn ≡ waiting → ⊥) → turn ≡ closed
closed_by closed apart settled = refl
closed_by waiting apart settled = absurd (settled refl)
closed_by broken apart settled = absurd (apart refl)

pub matching_by : (events : List Event) → InTurn events → NoneWaits events → Matching events
matching_by events in_turn settled = λ id. closed_by (turn_after id closed events) (in_turn id) (settled id)

closed_apart : (turn : Turn) → turn ≡ closed → turn ≡ broken → ⊥
closed_apart turn p q = absurd cc

closed_waits : (turn : Turn) → turn ≡ closed → turn ≡ waiting → ⊥
closed_waits turn p q = absurd cc

pub in_turn_by : (events : List Event) → Matching events → InTurn events
in_turn_by events matching = λ id e. closed_apart (turn_after id closed events) (matching id) e

pub none_waits_by : (events : List Event) → Matching events → NoneWaits events
none_waits_by events matching = λ id e. closed_waits (turn_after id closed events) (matching id) e

pub explained_by : {S : Type 0} (step : StepOf S) (start : S) (events : List Event) (end : S) → Sound step start events end
    → NoneWaits events → Explained step start events end
explained_by step start events end sound settled = record {
  matching = matching_by events sound.in_turn settled;
  within_window = sound.within_window;
  run = sound.run;
}

pub sound_by : {S : Type 0} (step : StepOf S) (start : S) (events : List Event) (end : S) → Explained step start events end
    → Sound step start events end
sound_by step start events end explained = record {
  in_turn = in_turn_by events explained.matching;
  within_window = explained.within_window;
  run = explained.run;
}

pub settled_by : {S : Type 0} (step : StepOf S) (start : S) (events : List Event) (end : S) → Explained step start events end
    → NoneWaits events
settled_by step start events end explained = none_waits_by events explained.matching
