-- What an auditor keeps of the events that it was fed, and which refusal an event gets
-- (draft-ietf-secsh-filexfer-02, section 6.1). The window and the numbers of records are this profile's own.
use Rattle.std.specs.Prelude.{◌≡◌, ℕ, ◌≤◌, ⊤, List, [], ◌∷◌, ◌++◌, length, Bool, true, Option, Some, None}
use Rattle.sftp_packets.specs.declared.packets.Request.{Request}
use Rattle.sftp_packets.specs.declared.packets.Reply.{Reply}
use Rattle.sftp_transcript.specs.declared.events.Event.{Event}
use Rattle.sftp_transcript.specs.declared.events.Event.TheVariants.{Asked, Replied}
use Rattle.sftp_transcript.specs.Sound.{number_after_events}
use Rattle.sftp_transcript.specs.Explained.{StepOf, Run, leading_pairs, window, turn_after, closed}
use Rattle.sftp_transcript.specs.Sound.{Sound, IsWaiting}
use Rattle.sftp_audit.specs.declared.errors.Refusal.{Refusal}
use Rattle.sftp_audit.specs.declared.errors.Refusal.TheVariants as refusals
use Rattle.sftp_audit.specs.declared.exchanges.Exchange.{Exchange}
use Rattle.sftp_audit.specs.Exchanges.{recorded_exchanges, unsettled, AreAnswered, ledger_of}

-- What an auditor keeps, whatever the states of its judge: the state after the settled requests, which are those before
-- the first one without a reply; the exchanges from that one on; the number of the next event's record; the refusal,
-- once there is one; and whether the judge follows the session up to there.
pub record Audited (S : Type 0) : Type 0 where
  pub state : S
  pub kept : List Exchange
  pub number : ℕ
  pub refusal : Option Refusal
  pub follows : Bool

-- the events are sound from the start, and this is kept of them
pub record StandsFor {S : Type 0} (step : StepOf S) (start : S) (events : List Event) (a : Audited S) : Type 0 where
  pub sound : Sound step start events a.state
  pub kept : a.kept ≡ unsettled (recorded_exchanges events)
  pub number : a.number ≡ number_after_events events
  pub unrefused : a.refusal ≡ None
  pub followed : a.follows ≡ true

-- The reply in the record of this number is the first in the order asked that is not allowed: all requests before its
-- own have their replies, and these are allowed.
pub record IsFirstWrong {S : Type 0} (step : StepOf S) (start : S) (exchanges : List Exchange)
    (number : ℕ) : Type 0 where
  pub before : List Exchange
  pub request : Request
  pub asked_in : ℕ
  pub reply : Reply
  pub behind : List Exchange
  pub exchanges_are : exchanges ≡ before
      ++ record { request = request; number = asked_in; reply = Some (record { reply = reply; number = number }) }
      ∷ behind
  pub answered : AreAnswered before
  pub mid : S
  pub run : Run step start (leading_pairs (ledger_of before)) mid
  pub wrong : (end : S) → step mid request reply end → ⊥

-- where the refusal is `NotAllowed`, this is the state in which the reply is not allowed
abbrev pub IsWrongIn : {S : Type 0} → StepOf S → S → List Exchange → S → Refusal → Type 0
IsWrongIn step start exchanges state (refusals.NotAllowed number) =
    (wrong : IsFirstWrong step start exchanges number) × (wrong.mid ≡ state)
IsWrongIn step start exchanges state other = ⊤

-- whether a judge follows a request with a reply, in a state
abbrev pub FollowsOf : Type 0 → Type 0
FollowsOf S = S → Request → Reply → Bool

-- Where the refusal is `NotAllowed`, this says whether the judge follows the request with this reply; otherwise it is
-- what it was before.
abbrev pub IsTold : {S : Type 0} → StepOf S → FollowsOf S → S → List Exchange → Bool → Bool → Refusal → Type 0
IsTold step follows start exchanges before after (refusals.NotAllowed number) =
    (wrong : IsFirstWrong step start exchanges number) × (after ≡ follows wrong.mid wrong.request wrong.reply)
IsTold step follows start exchanges before after other = after ≡ before

-- from the oldest unanswered request on, as many were asked as the window allows
abbrev pub IsWindowFull : List Event → Type 0
IsWindowFull events = window ≤ length (unsettled (recorded_exchanges events))

-- why an event is refused after others that are sound from the start
abbrev pub Refuses : {S : Type 0} → StepOf S → S → List Event → Event → Refusal → Type 0
Refuses step start events (Replied reply) (refusals.UnknownReply number) =
    (number ≡ number_after_events events) × (turn_after reply.id closed events ≡ closed)
Refuses step start events (Asked request) (refusals.IdInUse number) =
    (number ≡ number_after_events events) × IsWaiting events request.id
Refuses step start events (Asked request) (refusals.Window number) =
    (number ≡ number_after_events events) × (turn_after request.id closed events ≡ closed) × IsWindowFull events
Refuses step start events (Replied reply) (refusals.NotAllowed number) =
    IsWaiting events reply.id × IsFirstWrong step start (recorded_exchanges (events ++ Replied reply ∷ [])) number
Refuses step start events event refusals.NoMemory = ⊤
Refuses step start events event other = ⊥

-- the first request without a reply is in the record of this number
abbrev pub IsOldestOpen : List Event → ℕ → Type 0
IsOldestOpen events number =
    (exchange : Exchange) × (others : List Exchange)
    × (unsettled (recorded_exchanges events) ≡ exchange ∷ others) × (number ≡ exchange.number)

-- why there is no end yet
abbrev pub LacksReply : List Event → Refusal → Type 0
LacksReply events (refusals.Unanswered number) = IsOldestOpen events number
LacksReply events other = ⊥

-- why settling stops before a request without a reply
abbrev pub RefusesToSettle : {S : Type 0} → StepOf S → S → List Exchange → Refusal → Type 0
RefusesToSettle step start exchanges (refusals.NotAllowed number) = IsFirstWrong step start exchanges number
RefusesToSettle step start exchanges refusals.NoMemory = ⊤
RefusesToSettle step start exchanges other = ⊥

-- the events are sound from the start, and this is kept of them, whatever the number
pub record IsNoted {S : Type 0} (step : StepOf S) (start : S) (events : List Event) (a : Audited S) : Type 0 where
  pub sound : Sound step start events a.state
  pub kept : a.kept ≡ unsettled (recorded_exchanges events)
  pub followed : a.follows ≡ true

-- ---- what an event comes to, whatever events the auditor stands for, and from whatever start

-- it then stands for these events and this one
abbrev pub GoesOn : {S : Type 0} → StepOf S → Audited S → Event → Audited S → Type 0
GoesOn {S} step old event new =
    (start : S) (events : List Event) → StandsFor step start events old
    → StandsFor step start (events ++ event ∷ []) new

-- it has noted this one, whatever the number
abbrev pub HasNoted : {S : Type 0} → StepOf S → Audited S → Event → Audited S → Type 0
HasNoted {S} step old event new =
    (start : S) (events : List Event) → StandsFor step start events old → IsNoted step start (events ++ event ∷ []) new

-- the refusal of this one has its reason
abbrev pub HasReason : {S : Type 0} → StepOf S → Audited S → Event → Refusal → Type 0
HasReason {S} step old event refusal =
    (start : S) (events : List Event) → StandsFor step start events old → Refuses step start events event refusal

-- where the refusal is `NotAllowed`, this is the state in which the reply is not allowed
abbrev pub StopsIn : {S : Type 0} → StepOf S → Audited S → Event → S → Refusal → Type 0
StopsIn {S} step old event state refusal =
    (start : S) (events : List Event) → StandsFor step start events old
    → IsWrongIn step start (recorded_exchanges (events ++ event ∷ [])) state refusal

-- where it is, this says whether the judge follows the request; otherwise it is what it was before
abbrev pub Reports : {S : Type 0} → StepOf S → FollowsOf S → Audited S → Event → Bool → Refusal → Type 0
Reports {S} step follows old event after refusal =
    (start : S) (events : List Event) → StandsFor step start events old
    → IsTold step follows start (recorded_exchanges (events ++ event ∷ [])) old.follows after refusal
