-- When a tree explains a session: replies pair off with earlier requests, none later than the window permits, and the
-- requests, carried out singly and in sequence, allow these replies (draft-ietf-secsh-filexfer-02, section 6.1). The
-- window is this profile's own.
use Rattle.std.specs.Prelude.{◌≡◌, ◌==◌, ◌&&◌, nat_lt, ℕ, suc, Bool, true, if◌then◌else◌, List, [], ◌∷◌, ◌++◌, Option}
use Rattle.std.specs.Prelude.{Some, None, IsTrue, ◌||◌, ◌+◌, false, length}
use Rattle.std.specs.List.{AllByRecursion}
use Rattle.sftp_packets.specs.declared.packets.Request.{Request}
use Rattle.sftp_packets.specs.declared.packets.Reply.{Reply}
use Rattle.sftp_transcript.specs.declared.events.Event.{Event}
use Rattle.sftp_transcript.specs.declared.events.Event.TheVariants.{Asked, Replied}
use Rattle.sftp_transcript.specs.Transcript.{IsEvent}

-- ---- turns: with each id, a request is followed by its reply before the next request comes

pub data Turn : Type 0 where
  -- a request may come
  closed : Turn
  -- a reply has to come
  waiting : Turn
  -- one came out of turn
  broken : Turn

abbrev pub after_request : Turn → Turn
after_request closed = waiting
after_request waiting = broken
after_request broken = broken

abbrev pub after_reply : Turn → Turn
after_reply closed = broken
after_reply waiting = closed
after_reply broken = broken

-- the turn of an id after an event
abbrev pub after_event : ℕ → Event → Turn → Turn
after_event id (Asked request) turn = if request.id == id then after_request turn else turn
after_event id (Replied reply) turn = if reply.id == id then after_reply turn else turn

-- whose turn it is after the events
unfoldable pub turn_after : ℕ → Turn → List Event → Turn
turn_after id turn [] = turn
turn_after id turn (event ∷ events) = turn_after id (after_event id event turn) events

abbrev pub Matching : List Event → Type 0
Matching events = (id : ℕ) → turn_after id closed events ≡ closed

-- ---- pairs: a request's reply is the next one of its id

unfoldable pub next_reply : ℕ → List Event → Option Reply
next_reply id [] = None
next_reply id (Asked request ∷ events) = next_reply id events
next_reply id (Replied reply ∷ events) = if reply.id == id then Some reply else next_reply id events

-- each request in the order asked, with its reply where it has one
unfoldable pub exchanges_of : List Event → List (Request × Option Reply)
exchanges_of [] = []
exchanges_of (Asked request ∷ events) = (request, next_reply request.id events) ∷ exchanges_of events
exchanges_of (Replied reply ∷ events) = exchanges_of events

-- the pairs of request and reply up to the first request that has no reply
unfoldable pub leading_pairs : List (Request × Option Reply) → List (Request × Reply)
leading_pairs [] = []
leading_pairs ((request, None) ∷ others) = []
leading_pairs ((request, Some reply) ∷ others) = (request, reply) ∷ leading_pairs others

-- ---- the window: after each request fewer than this many are asked before its reply

abbrev pub window : ℕ
window = 1024

-- how many requests are asked before the next reply to an id, or before the end
unfoldable pub requests_before_reply : ℕ → List Event → ℕ
requests_before_reply id [] = 0
requests_before_reply id (Asked request ∷ events) = suc (requests_before_reply id events)
requests_before_reply id (Replied reply ∷ events) = if reply.id == id then 0 else requests_before_reply id events

unfoldable pub in_window : List Event → Bool
in_window [] = true
in_window (Asked request ∷ events) = nat_lt (requests_before_reply request.id events) window && in_window events
in_window (Replied reply ∷ events) = in_window events

-- ---- runs, of any machine whose step says which replies it allows and where it then is

abbrev pub StepOf : Type 0 → Type 1
StepOf S = S → Request → Reply → S → Type 0

abbrev pub Run : {S : Type 0} → StepOf S → S → List (Request × Reply) → S → Type 0
Run step start [] end = end ≡ start
Run {S} step start (pair ∷ pairs) end = (mid : S) × step start pair.0 pair.1 mid × Run step mid pairs end

pub record Explained {S : Type 0} (step : StepOf S) (start : S) (events : List Event) (end : S) : Type 0 where
  pub matching : Matching events
  pub within_window : IsTrue (in_window events)
  pub run : Run step start (leading_pairs (exchanges_of events)) end

-- some continuation of the events is explained; each event that it adds can be encoded
pub record BeginsFrom {S : Type 0} (step : StepOf S) (start : S) (events : List Event) : Type 0 where
  pub more : List Event
  pub end : S
  pub recordable : AllByRecursion IsEvent more
  pub explained : Explained step start (events ++ more) end

-- ==== The ledger of a session: each request so far in the order asked, with its reply if there is one. It says all of
-- the events so far that matters for what comes later.

-- a request, and its reply if there is one
abbrev pub Exchange : Type 0
Exchange = Request × Option Reply

-- the ledger with the replies among the events
unfoldable pub with_replies : List Exchange → List Event → List Exchange
with_replies [] events = []
with_replies ((request, None) ∷ others) events = (request, next_reply request.id events) ∷ with_replies others events
with_replies ((request, Some reply) ∷ others) events = (request, Some reply) ∷ with_replies others events

-- a request of this id waits for its reply
unfoldable pub is_open : ℕ → List Exchange → Bool
is_open id [] = false
is_open id ((request, None) ∷ others) = request.id == id || is_open id others
is_open id ((request, Some reply) ∷ others) = is_open id others

-- whose turn it is
abbrev pub turn_of : List Exchange → ℕ → Turn
turn_of ledger id = if is_open id ledger then waiting else closed

-- no two requests of one id wait
unfoldable pub AreApart : List Exchange → Type 0
AreApart [] = Unit {0}
AreApart ((request, None) ∷ others) = (is_open request.id others ≡ false) × AreApart others
AreApart ((request, Some reply) ∷ others) = AreApart others

-- each request that waits is answered in the window, with the events to come
unfoldable pub keeps_window : List Exchange → List Event → Bool
keeps_window [] events = true
keeps_window ((request, None) ∷ others) events =
    nat_lt (length others + requests_before_reply request.id events) window && keeps_window others events
keeps_window ((request, Some reply) ∷ others) events = keeps_window others events

-- the ledger stands for the events so far
pub record StandsFor (ledger : List Exchange) (seen : List Event) : Type 0 where
  pub exchanges_are : (more : List Event) → exchanges_of (seen ++ more) ≡ with_replies ledger more ++ exchanges_of more
  pub turns_are : (id : ℕ) (more : List Event)
      → turn_after id closed (seen ++ more) ≡ turn_after id (turn_of ledger id) more
  pub window_is : (more : List Event) → in_window (seen ++ more) ≡ (keeps_window ledger more && in_window more)
  pub apart : AreApart ledger
  pub in_time : IsTrue (keeps_window ledger [])

-- the request has its reply
abbrev pub IsAnswered : Exchange → Type 0
IsAnswered (request, None) = ⊥
IsAnswered (request, Some reply) = Unit {0}

-- the events are in turn and in time, and the ledger has them all: each request with its reply
pub record IsComplete (ledger : List Exchange) (events : List Event) : Type 0 where
  pub matching : Matching events
  pub within_window : IsTrue (in_window events)
  pub exchanges_are : exchanges_of events ≡ ledger
