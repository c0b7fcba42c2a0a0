-- What is kept of a session while it is read. This profile's own.
use Rattle.std.specs.Prelude.{◌≡◌, ◌≤◌, ℕ, List, [], ◌∷◌, ◌++◌, map, length, Option, Some, None, ⊤, IsTrue, true}
use Rattle.std.specs.Prelude.{false, Result, Ok, Err}
use Rattle.std.specs.List.{AllByRecursion}
use Rattle.std.specs.Option.{option_map}
use Rattle.sftp_transcript.specs.declared.events.Event.{Event}
use Rattle.sftp_transcript.specs.Explained.{in_window, window}
use Rattle.sftp_transcript.specs.Sound.{InTurn, number_after_events}
use Rattle.sftp_transcript.specs.Transcript.{IsRecord}
use Rattle.sftp_together.specs.Sets.{TimedEvent, timed_exchanges}
use Rattle.sftp_together.specs.declared.exchanges.Stamp.{Stamp}
use Rattle.sftp_together.specs.declared.exchanges.TimedExchange.{TimedExchange}
use Rattle.sftp_audit.specs.declared.exchanges.Exchange.{Exchange}
use Rattle.sftp_audit.specs.declared.exchanges.RecordedReply.{RecordedReply}
use Rattle.sftp_audit.specs.Exchanges.{recorded_exchanges, unsettled, is_awaited}
use Rattle.sftp_audit.specs.Trees.{AreApart}
use Rattle.sftp_audit.specs.declared.errors.Refusal.{Refusal}
use Rattle.sftp_audit.specs.declared.errors.Refusal.TheVariants as refusals
use Rattle.sftp_sets.specs.declared.waiting.Stamped.{Stamped}
use Rattle.sftp_sets.specs.declared.waiting.Waiting.{Waiting}
use Rattle.sftp_sets.specs.declared.collecting.Collected.{Collected}
use Rattle.sftp_audit.specs.Auditor.{Refuses}
use Rattle.sftp_sets.specs.declared.errors.SessionError.{SessionError}
use Rattle.sftp_sets.specs.Sessions.{time_of, any, IsSession, IsFirstFault}

-- ---- without times

abbrev pub reply_of : Stamped → RecordedReply
reply_of stamped = record { reply = stamped.reply; number = stamped.stamp.number }

abbrev pub exchange_of : Waiting → Exchange
exchange_of waiting = record {
  request = waiting.request;
  number = waiting.asked.number;
  reply = option_map reply_of waiting.replied;
}

abbrev pub exchanges_of : List Waiting → List Exchange
exchanges_of waiting = map exchange_of waiting

abbrev pub untimed : TimedExchange → Exchange
untimed exchange = record {
  request = exchange.request;
  number = exchange.asked.number;
  reply = Some (record { reply = exchange.reply; number = exchange.replied.number });
}

abbrev pub untimed_all : List TimedExchange → List Exchange
untimed_all exchanges = map untimed exchanges

-- the exchange of a request with this reply
abbrev pub timed_of : Waiting → Stamped → TimedExchange
timed_of waiting stamped = record {
  request = waiting.request;
  asked = waiting.asked;
  reply = stamped.reply;
  replied = stamped.stamp;
}

-- ---- times

-- the time of a stamp is that of its record
abbrev pub IsTimely : ℕ → List ℕ → Stamp → Type 0
IsTimely start entries stamp = stamp.time ≡ time_of start entries stamp.number

abbrev pub IsReplyTimely : ℕ → List ℕ → Option Stamped → Type 0
IsReplyTimely start entries None = ⊤
IsReplyTimely start entries (Some stamped) = IsTimely start entries stamped.stamp

abbrev pub IsWaitingTimely : ℕ → List ℕ → Waiting → Type 0
IsWaitingTimely start entries waiting =
    IsTimely start entries waiting.asked × IsReplyTimely start entries waiting.replied

abbrev pub AreWaitingTimely : ℕ → List ℕ → List Waiting → Type 0
AreWaitingTimely start entries waiting = AllByRecursion (IsWaitingTimely start entries) waiting

abbrev pub IsExchangeTimely : ℕ → List ℕ → TimedExchange → Type 0
IsExchangeTimely start entries exchange =
    IsTimely start entries exchange.asked × IsTimely start entries exchange.replied

abbrev pub AreTimely : ℕ → List ℕ → List TimedExchange → Type 0
AreTimely start entries exchanges = AllByRecursion (IsExchangeTimely start entries) exchanges

-- ---- what is kept

-- the events so far are in turn and in time, and this is kept of them: the exchanges that are done, and those from the
-- first request without a reply on
pub record Holds (start : ℕ) (entries : List ℕ) (events : List Event) (collected : Collected) : Type 0 where
  pub in_turn : InTurn events
  pub within_window : IsTrue (in_window events)
  pub all : recorded_exchanges events
      ≡ untimed_all collected.done.items ++ exchanges_of collected.kept.items
  pub first_waits : unsettled (exchanges_of collected.kept.items) ≡ exchanges_of collected.kept.items
  pub apart : AreApart (exchanges_of collected.kept.items)
  pub number : collected.number ≡ number_after_events events
  pub done_timely : AreTimely start entries collected.done.items
  pub kept_timely : AreWaitingTimely start entries collected.kept.items

-- exchanges that have their replies are moved from those that are kept to those that are done
pub record AreMoved (old_done : List TimedExchange) (old_kept : List Waiting) (new_done : List TimedExchange)
    (new_kept : List Waiting) : Type 0
  where
    pub moved : List TimedExchange
    pub done : new_done ≡ old_done ++ moved
    pub kept : exchanges_of old_kept ≡ untimed_all moved ++ exchanges_of new_kept
    pub timely : (start : ℕ) (entries : List ℕ) → AreWaitingTimely start entries old_kept
        → AreTimely start entries moved × AreWaitingTimely start entries new_kept

-- why a request of this id is not taken, in the record of this number
abbrev pub RefusesId : List Exchange → ℕ → ℕ → Refusal → Type 0
RefusesId exchanges id number (refusals.IdInUse place) = (place ≡ number) × (is_awaited id exchanges ≡ true)
RefusesId exchanges id number (refusals.Window place) =
    (place ≡ number) × (is_awaited id exchanges ≡ false) × (window ≤ length exchanges)
RefusesId exchanges id number refusals.NoMemory = ⊤
RefusesId exchanges id number other = ⊥

-- the first request has this reply, and is moved
pub record MovesFirst (old_done : List TimedExchange) (old_kept : List Waiting) (new_done : List TimedExchange)
    (new_kept : List Waiting) : Type 0
  where
    pub first : Waiting
    pub stamped : Stamped
    pub answered : first.replied ≡ Some stamped
    pub kept : old_kept ≡ first ∷ new_kept
    pub done : new_done ≡ old_done ++ timed_of first stamped ∷ []

-- what is kept of events stands for these and one more
abbrev pub Notes : ℕ → List ℕ → Collected → Event → Collected → Type 0
Notes start entries old event new =
    (events : List Event) → Holds start entries events old → Holds start entries (events ++ event ∷ []) new

-- why an event is not taken, whatever the events before it
abbrev pub HasReason : ℕ → List ℕ → Collected → Event → Refusal → Type 0
HasReason start entries old event refusal =
    (events : List Event) → Holds start entries events old → Refuses any tt events event refusal

-- ---- what is read

-- the transcript records events, and this is kept of them
pub record WasRead (start : ℕ) (entries : List ℕ) (transcript : List ℕ) (collected : Collected) : Type 0 where
  pub events : List Event
  pub recorded : IsRecord events transcript
  pub holds : Holds start entries events collected

-- they are a session with these exchanges, or the error is the first fault, and they are no session
abbrev pub IsRead : ℕ → List ℕ → List ℕ → Result (List TimedExchange) SessionError → Type 0
IsRead start entries transcript (Ok exchanges) =
    (session : List TimedEvent) × IsSession transcript start entries session × (exchanges ≡ timed_exchanges session)
IsRead start entries transcript (Err error) =
    ((session : List TimedEvent) → IsSession transcript start entries session → ⊥)
    × IsFirstFault transcript entries error
