use Rattle.sftp_audit.proofs.Imports.{◌≡◌, ◌==◌, ◌&&◌, ◌||◌, not, ℕ, ◌+◌, ◌≤◌, min, true, false, List, [], ◌∷◌, ◌++◌}
use Rattle.sftp_audit.proofs.Imports.{Option, Some, None, length, refl, sym, ap, ◌∙◌, map, arith, inl, inr}
use Rattle.sftp_audit.proofs.Imports.{option_map, eqb-true, eqb-false, eq-eqb, ne_eqb, cases_Bool, map-append, map-id}
use Rattle.sftp_audit.proofs.Imports.{append-nil, Request, Reply, Event, Asked, Replied, first_number}
use Rattle.sftp_audit.proofs.Imports.{number_after_events, next_reply, exchanges_of, leading_pairs, RecordedReply}
use Rattle.sftp_audit.proofs.Imports.{Exchange, next_recorded, exchanges_from, recorded_exchanges, is_answered}
use Rattle.sftp_audit.proofs.Imports.{unsettled, AreAnswered, waits_for, is_awaited, reply_of, ledger_of, or_assoc}
use Rattle.sftp_streams.specs.Streams.{one_more, largest_count}
use Rattle.sftp_audit.specs.Exchanges.{answered_by, with_reply}
use Rattle.sftp_audit.specs.Cuts.{is_unanswered, unanswered_count}
pub mod Turns
pub mod Places
pub mod Standing
pub mod Refusals

-- ==== Lists of exchanges: what an event adds, which of them are settled, and what they are without the numbers.

-- ---- tests

pub flipped : (a b : ℕ) → (a == b) ≡ (b == a)
flipped a b = grind (arith, cases_Bool, eqb-true, eqb-false, eq-eqb, ne_eqb)

pub same_head : {X : Type 0} (x y : X) (xs ys : List X) → x ∷ xs ≡ y ∷ ys → x ≡ y
same_head x y xs ys same = cc

pub same_tail : {X : Type 0} (x y : X) (xs ys : List X) → x ∷ xs ≡ y ∷ ys → xs ≡ ys
same_tail x y xs ys same = cc

-- ---- numbers of records

-- the number after the events, where the first one's record has a number
abbrev number_from : ℕ → List Event → ℕ
number_from number [] = number
number_from number (event ∷ events) = number_from (one_more number) events

number_from-min : (number : ℕ) (events : List Event) → number ≤ largest_count
    → number_from number events ≡ min (number + length events) largest_count
number_from-min number [] within = omega arith
number_from-min number (event ∷ events) within =
    number_from-min (one_more number) events (omega arith) ∙ omega arith

number_from-first : (events : List Event) → number_from first_number events ≡ number_after_events events
number_from-first events = number_from-min first_number events (omega arith)

-- ---- without the numbers

next_recorded-bare : (id number : ℕ) (events : List Event)
    → option_map reply_of (next_recorded id number events) ≡ next_reply id events
unfolding next_recorded next_reply
next_recorded-bare id number [] = refl
next_recorded-bare id number (Asked request ∷ events) = next_recorded-bare id (one_more number) events
next_recorded-bare id number (Replied reply ∷ events) =
    grind (arith, cases_Bool, next_recorded-bare id (one_more number) events)

exchanges_from-bare : (number : ℕ) (events : List Event)
    → ledger_of (exchanges_from number events) ≡ exchanges_of events
unfolding exchanges_from exchanges_of
exchanges_from-bare number [] = refl
exchanges_from-bare number (Asked request ∷ events) =
    simp (next_recorded-bare request.id (one_more number) events, exchanges_from-bare (one_more number) events)
exchanges_from-bare number (Replied reply ∷ events) = exchanges_from-bare (one_more number) events

pub ledger_of-recorded : (events : List Event) → ledger_of (recorded_exchanges events) ≡ exchanges_of events
ledger_of-recorded events = exchanges_from-bare first_number events

-- ---- one event more

-- the reply that is there, or else the later one
abbrev or_later : Option RecordedReply → Option RecordedReply → Option RecordedReply
or_later None later = later
or_later (Some recorded) later = Some recorded

next_recorded-append : (id number : ℕ) (xs ys : List Event) → next_recorded id number (xs ++ ys)
    ≡ or_later (next_recorded id number xs) (next_recorded id (number_from number xs) ys)
unfolding next_recorded
next_recorded-append id number [] ys = refl
next_recorded-append id number (Asked request ∷ xs) ys = next_recorded-append id (one_more number) xs ys
next_recorded-append id number (Replied reply ∷ xs) ys =
    grind (arith, cases_Bool, next_recorded-append id (one_more number) xs ys)

-- the exchange, with a later reply if it has none
abbrev replied_later : ℕ → List Event → Exchange → Exchange
replied_later number events exchange = record {
  request = exchange.request;
  number = exchange.number;
  reply = or_later exchange.reply (next_recorded exchange.request.id number events);
}

exchanges_from-append : (number : ℕ) (xs ys : List Event) → exchanges_from number (xs ++ ys)
    ≡ map (replied_later (number_from number xs) ys) (exchanges_from number xs)
    ++ exchanges_from (number_from number xs) ys
unfolding exchanges_from
exchanges_from-append number [] ys = refl
exchanges_from-append number (Asked request ∷ xs) ys =
    simp (next_recorded-append request.id (one_more number) xs ys, exchanges_from-append (one_more number) xs ys)
exchanges_from-append number (Replied reply ∷ xs) ys = exchanges_from-append (one_more number) xs ys

map_alike : (f g : Exchange → Exchange) → ((x : Exchange) → f x ≡ g x) → (xs : List Exchange) → map f xs ≡ map g xs
map_alike f g alike [] = refl
map_alike f g alike (x ∷ xs) = rw (alike x, map_alike f g alike xs) refl

-- a request is no reply
later-asked : (number : ℕ) (request : Request) (x : Exchange) → replied_later number (Asked request ∷ []) x ≡ x
unfolding next_recorded
later-asked number request x = grind arith

later-replied : (number : ℕ) (reply : Reply) (x : Exchange)
    → replied_later number (Replied reply ∷ []) x ≡ answered_by (record { reply = reply; number = number }) x
unfolding next_recorded
later-replied number reply x = grind (arith, cases_Bool, flipped)

pub recorded-asked : (events : List Event) (request : Request)
    → recorded_exchanges (events ++ Asked request ∷ []) ≡ recorded_exchanges events
    ++ record { request = request; number = number_after_events events; reply = None } ∷ []
unfolding exchanges_from next_recorded
recorded-asked events request =
    simp (
      exchanges_from-append first_number events (Asked request ∷ []),
      map_alike _ (λ x. x) (later-asked (number_from first_number events) request) (recorded_exchanges events),
      map-id (recorded_exchanges events),
      number_from-first events,
    )

pub recorded-replied : (events : List Event) (reply : Reply)
    → recorded_exchanges (events ++ Replied reply ∷ []) ≡ with_reply
    (record { reply = reply; number = number_after_events events }) (recorded_exchanges events)
unfolding exchanges_from
recorded-replied events reply =
    let number = number_from first_number events in
    exchanges_from-append first_number events (Replied reply ∷ [])
    ∙ append-nil (map (replied_later number (Replied reply ∷ [])) (recorded_exchanges events))
    ∙ map_alike (replied_later number (Replied reply ∷ [])) (answered_by (record { reply = reply; number = number }))
    (later-replied number reply) (recorded_exchanges events)
    ∙ ap (λ (n : ℕ). with_reply (record { reply = reply; number = n }) (recorded_exchanges events))
    (number_from-first events)

-- ---- settled and unsettled

pub unsettled-past : (x : Exchange) (xs : List Exchange) → is_answered x ≡ true → unsettled (x ∷ xs) ≡ unsettled xs
unfolding unsettled
unsettled-past x xs answered = rw answered refl

pub unsettled-here : (x : Exchange) (xs : List Exchange) → is_answered x ≡ false → unsettled (x ∷ xs) ≡ x ∷ xs
unfolding unsettled
unsettled-here x xs waits = rw waits refl

pub unsettled-none : unsettled [] ≡ []
unfolding unsettled
unsettled-none = refl

-- the settled ones come before the unsettled
pub settled_parts : (xs : List Exchange) → (before : List Exchange) × AreAnswered before × (xs ≡ before ++ unsettled xs)
unfolding unsettled
settled_parts [] = ([], tt, refl)
settled_parts (x ∷ xs) = elim (cases_Bool (is_answered x)) [
  | inl answered ↦ let rest = settled_parts xs in (x ∷ rest.0, (answered, rest.1), simp (answered, sym rest.2))
  | inr waits ↦ ([], tt, simp waits)
]

pub unsettled-within : (xs : List Exchange) → length (unsettled xs) ≤ length xs
unfolding unsettled
unsettled-within [] = omega arith
unsettled-within (x ∷ xs) = grind (arith, cases_Bool, unsettled-within xs)

pub answered-append : (xs ys : List Exchange) → AreAnswered xs → AreAnswered ys → AreAnswered (xs ++ ys)
answered-append [] ys front back = back
answered-append (x ∷ xs) ys front back = (front.0, answered-append xs ys front.1 back)

pub unsettled-answered : (before xs : List Exchange) → AreAnswered before → unsettled (before ++ xs) ≡ unsettled xs
unfolding unsettled
unsettled-answered [] xs answered = refl
unsettled-answered (x ∷ before) xs answered = simp (answered.0, unsettled-answered before xs answered.1)

pub unsettled-asked : (xs : List Exchange) (x : Exchange) → is_answered x ≡ false
    → unsettled (xs ++ x ∷ []) ≡ unsettled xs ++ x ∷ []
unfolding unsettled
unsettled-asked [] x waits = grind arith
unsettled-asked (y ∷ xs) x waits = grind (arith, cases_Bool, unsettled-asked xs x waits)

-- the first of the unsettled ones waits
pub first_unsettled : (xs : List Exchange) (x : Exchange) (others : List Exchange) → unsettled xs ≡ x ∷ others
    → is_answered x ≡ false
unfolding unsettled
first_unsettled [] x others is = absurd cc
first_unsettled (y ∷ xs) x others is = grind (arith, cases_Bool, first_unsettled xs x others)

-- ---- who waits

pub is_awaited-append : (id : ℕ) (xs ys : List Exchange) → is_awaited id (xs ++ ys) ≡ (is_awaited id xs || is_awaited id ys)
unfolding is_awaited
is_awaited-append id [] ys = refl
is_awaited-append id (x ∷ xs) ys = simp (or_assoc, is_awaited-append id xs ys)

pub is_awaited-unsettled : (id : ℕ) (xs : List Exchange) → is_awaited id (unsettled xs) ≡ is_awaited id xs
unfolding is_awaited unsettled
is_awaited-unsettled id [] = refl
is_awaited-unsettled id (x ∷ xs) = grind (arith, cases_Bool, is_awaited-unsettled id xs)

-- ---- what a reply changes

-- whether a request still waits
pub waits_for-replied : (id : ℕ) (r : RecordedReply) (x : Exchange)
    → waits_for id (answered_by r x) ≡ (waits_for id x && not (r.reply.id == id))
waits_for-replied id r x = grind (arith, cases_Bool, eqb-true, eqb-false, eq-eqb, ne_eqb)

-- the reply takes its id away, and nothing else
pub is_awaited-replied : (id : ℕ) (r : RecordedReply) (xs : List Exchange)
    → is_awaited id (with_reply r xs) ≡ (is_awaited id xs && not (r.reply.id == id))
unfolding is_awaited
is_awaited-replied id r [] = refl
is_awaited-replied id r (x ∷ xs) = grind (arith, cases_Bool, waits_for-replied id r x, is_awaited-replied id r xs)

pub with_reply-append : (recorded : RecordedReply) (xs ys : List Exchange)
    → with_reply recorded (xs ++ ys) ≡ with_reply recorded xs ++ with_reply recorded ys
with_reply-append recorded xs ys = map-append (answered_by recorded) xs ys

pub with_reply-answered : (recorded : RecordedReply) (before : List Exchange) → AreAnswered before
    → with_reply recorded before ≡ before
with_reply-answered recorded [] answered = refl
with_reply-answered recorded (x ∷ before) answered = simp (answered.0, with_reply-answered recorded before answered.1)

-- ---- the pairs that are settled

pub leading_pairs-settled : (before xs : List Exchange) → AreAnswered before
    → leading_pairs (ledger_of (before ++ xs)) ≡ leading_pairs (ledger_of before) ++ leading_pairs (ledger_of xs)
unfolding leading_pairs
leading_pairs-settled [] xs answered = refl
leading_pairs-settled (x ∷ before) xs answered = grind (arith, leading_pairs-settled before xs answered.1)

pub leading_pairs-unsettled : (xs : List Exchange) → leading_pairs (ledger_of (unsettled xs)) ≡ []
unfolding unsettled leading_pairs
leading_pairs-unsettled [] = refl
leading_pairs-unsettled (x ∷ xs) = grind (arith, cases_Bool, leading_pairs-unsettled xs)

-- a request without a reply adds none
pub leading_pairs-asked : (xs : List Exchange) (x : Exchange) → is_answered x ≡ false
    → leading_pairs (ledger_of (xs ++ x ∷ [])) ≡ leading_pairs (ledger_of xs)
unfolding leading_pairs
leading_pairs-asked [] x waits = grind arith
leading_pairs-asked (y ∷ xs) x waits = grind (arith, leading_pairs-asked xs x waits)

-- ---- how many are unanswered

pub unanswered-past : (x : Exchange) (xs : List Exchange) → is_answered x ≡ true
    → unanswered_count (x ∷ xs) ≡ unanswered_count xs
unfolding is_unanswered
unanswered-past x xs answered = rw answered refl

-- those of the unsettled are all
pub unanswered-unsettled : (xs : List Exchange) → unanswered_count (unsettled xs) ≡ unanswered_count xs
unfolding unsettled is_unanswered
unanswered-unsettled [] = refl
unanswered-unsettled (x ∷ xs) = grind (arith, cases_Bool, unanswered-unsettled xs)
