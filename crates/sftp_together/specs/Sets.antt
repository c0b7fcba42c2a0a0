-- When one order of all requests explains several sessions that overlapped on one tree. This profile's own.
use Rattle.std.specs.Prelude.{◌≡◌, ◌==◌, ◌+◌, nat_lt, ℕ, Bool, true, false, if◌then◌else◌, List, [], ◌∷◌, map, length}
use Rattle.std.specs.Prelude.{get_or, Option, Some, None, IsTrue}
use Rattle.std.specs.List.{AllByRecursion}
use Rattle.sftp_packets.specs.declared.packets.Request.{Request}
use Rattle.sftp_packets.specs.declared.packets.Reply.{Reply}
use Rattle.sftp_streams.specs.Streams.{one_more}
use Rattle.sftp_transcript.specs.declared.events.Event.{Event}
use Rattle.sftp_transcript.specs.declared.events.Event.TheVariants.{Asked, Replied}
use Rattle.sftp_transcript.specs.Explained.{Matching, in_window, StepOf, Run}
use Rattle.sftp_transcript.specs.Sound.{first_number}
use Rattle.sftp_joint.specs.Joint.{joint_ask, joint_answer}
use Rattle.sftp_together.specs.declared.exchanges.Stamp.{Stamp}
use Rattle.sftp_together.specs.declared.exchanges.TimedExchange.{TimedExchange}

-- ---- the sessions of a set

-- what sessions have: each its requests with their replies, in the order asked; the number of a session is its position
-- in this list, from 0
abbrev pub Sessions : Type 0
Sessions = List (List TimedExchange)

-- what the session of a number has, and nothing if there is none
abbrev pub session_at : ℕ → Sessions → List TimedExchange
session_at number sessions = get_or sessions number []

-- one session is the whole set
abbrev pub is_alone : Sessions → Bool
is_alone sessions = length sessions == 1

-- ---- orders

-- a request that has its place in an order, with the number of its session
abbrev pub Placed : Type 0
Placed = ℕ × TimedExchange

abbrev pub session_of : Placed → ℕ
session_of placed = placed.0

-- what one session has in an order
unfoldable pub part_of : ℕ → List Placed → List TimedExchange
part_of number [] = []
part_of number (placed ∷ order) =
    if placed.0 == number then placed.1 ∷ part_of number order else part_of number order

-- the order has each request of each session once, those of a session in the order in which it asked them
abbrev pub IsOrderOf : Sessions → List Placed → Type 0
IsOrderOf sessions order = (number : ℕ) → part_of number order ≡ session_at number sessions

-- the first had its reply more than the tolerance before the second was asked: it has to come before that one
abbrev pub comes_before : ℕ → TimedExchange → TimedExchange → Bool
comes_before tolerance first second = nat_lt (first.replied.time + tolerance) second.asked.time

-- it has to come before none of those in the order
abbrev pub MayComeAfter : ℕ → TimedExchange → List Placed → Type 0
MayComeAfter tolerance exchange order =
    AllByRecursion (λ placed. comes_before tolerance exchange placed.1 ≡ false) order

-- none comes after one that it has to come before
unfoldable pub KeepsClock : ℕ → List Placed → Type 0
KeepsClock tolerance [] = Unit {0}
KeepsClock tolerance (placed ∷ order) =
    AllByRecursion (λ later. comes_before tolerance later.1 placed.1 ≡ false) order × KeepsClock tolerance order

-- ---- handles

-- A request, and a reply, as they are judged. Among several sessions, the name of a handle begins with the number of
-- its session, so that each has handles of its own; the handles of a session alone keep their names.
abbrev pub request_in : Bool → ℕ → Request → Request
request_in true number request = request
request_in false number request = record { id = request.id; ask = joint_ask number request.ask }

abbrev pub reply_in : Bool → ℕ → Reply → Reply
reply_in true number reply = reply
reply_in false number reply = record { id = reply.id; answer = joint_answer number reply.answer }

abbrev pub pair_in : Bool → Placed → Request × Reply
pair_in alone placed = (request_in alone placed.0 placed.1.request, reply_in alone placed.0 placed.1.reply)

abbrev pub pairs_in : Bool → List Placed → List (Request × Reply)
pairs_in alone order = map (pair_in alone) order

-- ---- what an order explains

-- The order is one of these sessions, it keeps the clock up to the tolerance, and all requests, carried out singly in
-- this order from the start, allow these replies and lead to the end.
pub record Explains {S : Type 0} (step : StepOf S) (start : S) (tolerance : ℕ) (sessions : Sessions)
    (order : List Placed) (end : S) : Type 0 where
  pub each : IsOrderOf sessions order
  pub clock : KeepsClock tolerance order
  pub run : Run step start (pairs_in (is_alone sessions) order) end

-- ---- sessions as events

-- an event, and when it was recorded, on the clock of the set
abbrev pub TimedEvent : Type 0
TimedEvent = Event × ℕ

abbrev pub event_of : TimedEvent → Event
event_of timed = timed.0

-- the next reply to an id, and its record; the first event is in the record of this number
unfoldable pub next_timed : ℕ → ℕ → List TimedEvent → Option (Reply × Stamp)
next_timed id number [] = None
next_timed id number ((Asked request, time) ∷ events) = next_timed id (one_more number) events
next_timed id number ((Replied reply, time) ∷ events) =
    if reply.id == id then Some (reply, record { number = number; time = time })
    else next_timed id (one_more number) events

-- the exchanges from this request on, if it has its reply
abbrev pub answered_first : Request → Stamp → Option (Reply × Stamp) → List TimedExchange → List TimedExchange
answered_first request asked None others = []
answered_first request asked (Some recorded) others =
    record { request = request; asked = asked; reply = recorded.0; replied = recorded.1 } ∷ others

-- each request in the order asked with its reply, up to the first that has none
unfoldable pub timed_from : ℕ → List TimedEvent → List TimedExchange
timed_from number [] = []
timed_from number ((Asked request, time) ∷ events) =
    answered_first request (record { number = number; time = time }) (next_timed request.id (one_more number) events)
    (timed_from (one_more number) events)
timed_from number ((Replied reply, time) ∷ events) = timed_from (one_more number) events

-- those of a session
abbrev pub timed_exchanges : List TimedEvent → List TimedExchange
timed_exchanges events = timed_from first_number events

-- the session takes turns up to its end, and keeps the window
pub record IsWhole (events : List TimedEvent) : Type 0 where
  pub matching : Matching (map event_of events)
  pub within_window : IsTrue (in_window (map event_of events))

-- What it means that a set of sessions is explained: each is whole, and some order of all their requests explains them.
pub record AreExplained {S : Type 0} (step : StepOf S) (start : S) (tolerance : ℕ)
    (sessions : List (List TimedEvent)) (end : S) : Type 0 where
  pub whole : AllByRecursion IsWhole sessions
  pub order : List Placed
  pub explains : Explains step start tolerance (map timed_exchanges sessions) order end

-- ---- times that rise

-- no record has an earlier time than the one before it, whose time is the first argument
unfoldable pub RisesFrom : ℕ → List TimedEvent → Type 0
RisesFrom time [] = Unit {0}
RisesFrom time (event ∷ events) = (nat_lt event.1 time ≡ false) × RisesFrom event.1 events

abbrev pub Rises : List TimedEvent → Type 0
Rises events = RisesFrom 0 events

-- the order of a session alone: its requests as it asked them
abbrev pub as_asked : List TimedExchange → List Placed
as_asked exchanges = map (λ exchange. (0, exchange)) exchanges
