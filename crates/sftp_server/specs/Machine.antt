-- The core of a server: a state, and a queue of requests in the order asked, the first of which is unanswered. A
-- request may be done once no earlier pending request conflicts with it. Replies are sent in any order
-- (draft-ietf-secsh-filexfer-02, section 6.1). The states, which replies they allow, and which requests conflict are
-- parameters. That the queue is bounded is this profile's own.
use Rattle.std.specs.Prelude.{◌≡◌, ◌==◌, ◌&&◌, ◌||◌, not, nat_lt, ℕ, Bool, true, false, List, [], ◌∷◌, ◌++◌, length}
use Rattle.std.specs.Prelude.{take, slice_get, Option, Some, None, if◌then◌else◌, ◌≤◌, IsTrue, ◌+◌, ◌*◌, ◌/◌, ◌%◌, ◌^◌}
use Rattle.sftp_packets.specs.declared.packets.Packet.TheVariants.{Reply as reply_packet}
use Rattle.sftp_packets.specs.declared.packets.Request.{Request}
use Rattle.sftp_packets.specs.declared.packets.Reply.{Reply}
use Rattle.sftp_packets.specs.Packets.{HasSpelling}
use Rattle.sftp_transcript.specs.declared.events.Event.{Event}
use Rattle.sftp_transcript.specs.declared.events.Event.TheVariants.{Asked, Replied}
use Rattle.sftp_transcript.specs.Explained.{StepOf, window as full_window}
use Rattle.sftp_server.specs.declared.queue.Entry.{Entry}
use Rattle.sftp_server.specs.declared.queue.Progress.{Progress}
use Rattle.sftp_server.specs.declared.queue.Progress.TheVariants.{Pending, Done, Sent}
use Rattle.sftp_server.specs.declared.acts.Act.{Act}
use Rattle.sftp_server.specs.declared.acts.Act.TheVariants.{Deliver, Work, Send}
use Rattle.std.specs.List.{AllByRecursion}
use Rattle.sftp_handles.specs.State.{State}
use Rattle.sftp_handles.specs.Allowed.{Allowed}
use Rattle.sftp_handles.specs.Clash.{range_clash}
use Rattle.sftp_handles.specs.Clash.{IsAskable}
use Rattle.sftp_packets.specs.Layouts.{IsAsk}
use Rattle.sftp_server.specs.declared.refusals.Refuse.{Refuse}
use Rattle.sftp_server.specs.declared.refusals.Refuse.TheVariants.{Full, IdInUse, NoMemory}

pub record Machine (S : Type 0) : Type 0 where
  pub state : S
  pub window : ℕ
  pub queue : List Entry

-- nothing was asked yet
abbrev pub at_start : {S : Type 0} → S → ℕ → Machine S
at_start start window = record { state = start; window = window; queue = [] }

-- whether two requests, the first asked before the second, may not change places in a state
abbrev pub ClashOf : Type 0 → Type 0
ClashOf S = S → Request → Request → Bool

-- ---- what a queue says

abbrev pub is_pending : Progress → Bool
is_pending Pending = true
is_pending (Done reply) = false
is_pending Sent = false

abbrev pub is_sent : Progress → Bool
is_sent Pending = false
is_sent (Done reply) = false
is_sent Sent = true

-- a request of this id is not answered yet
unfoldable pub is_unsent : ℕ → List Entry → Bool
is_unsent id [] = false
is_unsent id (entry ∷ queue) = (not (is_sent entry.progress) && entry.request.id == id) || is_unsent id queue

-- no request in the queue is pending and conflicts with this one, which was asked later
unfoldable pub is_free_of : {S : Type 0} → ClashOf S → S → List Entry → Request → Bool
is_free_of clash s [] request = true
is_free_of clash s (entry ∷ queue) request =
    not (is_pending entry.progress && clash s entry.request request) && is_free_of clash s queue request

abbrev pub ready_in : {S : Type 0} → ClashOf S → S → List Entry → Option Entry → Bool
ready_in clash s earlier None = false
ready_in clash s earlier (Some entry) = is_pending entry.progress && is_free_of clash s earlier entry.request

-- the request at this position is pending, and conflicts with no earlier one that is
abbrev pub is_ready : {S : Type 0} → ClashOf S → Machine S → ℕ → Bool
is_ready clash machine k = ready_in clash machine.state (take k machine.queue) (slice_get machine.queue k)

abbrev pub pending_in : Option Entry → Bool
pending_in None = false
pending_in (Some entry) = is_pending entry.progress

-- the request at this position is pending
abbrev pub is_pending_at : List Entry → ℕ → Bool
is_pending_at queue k = pending_in (slice_get queue k)

abbrev pub reply_of : Progress → Option Reply
reply_of Pending = None
reply_of (Done reply) = Some reply
reply_of Sent = None

abbrev pub reply_in : Option Entry → Option Reply
reply_in None = None
reply_in (Some entry) = reply_of entry.progress

-- the reply of the request at this position, if it is done and not sent
abbrev pub reply_at : List Entry → ℕ → Option Reply
reply_at queue k = reply_in (slice_get queue k)

-- the queue without the requests at its front that were sent
unfoldable pub from_unsent : List Entry → List Entry
from_unsent [] = []
from_unsent (entry ∷ queue) = if is_sent entry.progress then from_unsent queue else entry ∷ queue

-- ---- acts

-- the queue has room, and no unsent request has the id
abbrev pub can_take : {S : Type 0} → Machine S → Request → Bool
can_take machine request = nat_lt (length machine.queue) machine.window && not (is_unsent request.id machine.queue)

-- the request is last in the queue, and pending
abbrev pub taken : {S : Type 0} → Machine S → Request → Machine S
taken machine request = record machine {
  queue = machine.queue ++ record { request = request; progress = Pending } ∷ [];
}

-- the request at the position was done: its reply is allowed in the state, and can be encoded
pub record IsWorked {S : Type 0} (step : StepOf S) (before : Machine S) (k : ℕ) (after : Machine S) : Type 0 where
  pub front : List Entry
  pub request : Request
  pub back : List Entry
  pub reply : Reply
  pub queue_is : before.queue ≡ front ++ record { request = request; progress = Pending } ∷ back
  pub position : length front ≡ k
  pub allowed : step before.state request reply after.state
  pub spelled : HasSpelling (reply_packet reply)
  pub same_window : after.window ≡ before.window
  pub marked : after.queue ≡ front ++ record { request = request; progress = Done reply } ∷ back

-- the reply of the request at the position was sent
pub record IsSent {S : Type 0} (before : Machine S) (k : ℕ) (reply : Reply) (after : Machine S) : Type 0 where
  pub front : List Entry
  pub request : Request
  pub back : List Entry
  pub queue_is : before.queue ≡ front ++ record { request = request; progress = Done reply } ∷ back
  pub position : length front ≡ k
  pub marked : after
      ≡ record before { queue = from_unsent (front ++ record { request = request; progress = Sent } ∷ back) }

-- the machine is as before, and no event is made
pub record IsIdle {S : Type 0} (before : Machine S) (events : List Event) (after : Machine S) : Type 0 where
  pub unchanged : after ≡ before
  pub silent : events ≡ []

-- what comes of a delivery, by whether the request can be taken
abbrev pub IsDelivery : {S : Type 0} → Bool → Machine S → Request → List Event → Machine S → Type 0
IsDelivery true before request events after = (after ≡ taken before request) × (events ≡ Asked request ∷ [])
IsDelivery false before request events after = IsIdle before events after

-- what comes of work, by whether the request is ready
abbrev pub IsWork : {S : Type 0} → StepOf S → Bool → Machine S → ℕ → List Event → Machine S → Type 0
IsWork step true before k events after = IsWorked step before k after × (events ≡ [])
IsWork step false before k events after = IsIdle before events after

-- what comes of sending, by the reply, if there is one
abbrev pub IsSend : {S : Type 0} → Option Reply → Machine S → ℕ → List Event → Machine S → Type 0
IsSend (Some reply) before k events after = IsSent before k reply after × (events ≡ Replied reply ∷ [])
IsSend None before k events after = IsIdle before events after

-- an act, the events that it makes, and the machine after it
abbrev pub IsAct : {S : Type 0} → StepOf S → ClashOf S → Machine S → Act → List Event → Machine S → Type 0
IsAct step clash before (Deliver request) events after =
    IsDelivery (can_take before request) before request events after
IsAct step clash before (Work k) events after = IsWork step (is_ready clash before k) before k events after
IsAct step clash before (Send k) events after = IsSend (reply_at before.queue k) before k events after

-- acts one after the other, with all their events
abbrev pub AreActs : {S : Type 0} → StepOf S → ClashOf S → Machine S → List Act → List Event → Machine S → Type 0
AreActs step clash before [] events after = IsIdle before events after
AreActs {S} step clash before (act ∷ acts) events after =
    (mid : Machine S) × (first : List Event) × (rest : List Event) × IsAct step clash before act first mid
    × AreActs step clash mid acts rest after × (events ≡ first ++ rest)

-- the request of a delivery has the property
abbrev pub Delivers : (Request → Type 0) → Act → Type 0
Delivers P (Deliver request) = P request
Delivers P (Work k) = Unit {0}
Delivers P (Send k) = Unit {0}

-- ==== The core of this server: the general machine over the states of sessions.

-- which requests the server does in the order asked: those that share what they touch, unless both only read it, or
-- keep to ranges of one file that do not meet; and those that share the room of files
abbrev pub server_clash : ClashOf State
server_clash s earlier later = range_clash s earlier later

-- why a request is not taken: the queue is full, or an unsent request has the id, or, if neither, memory ran out
abbrev pub IsRefusedFor : Machine State → Request → Refuse → Type 0
IsRefusedFor machine request Full = machine.window ≤ length machine.queue
IsRefusedFor machine request IdInUse =
    IsTrue (nat_lt (length machine.queue) machine.window) × IsTrue (is_unsent request.id machine.queue)
IsRefusedFor machine request NoMemory = IsTrue (can_take machine request)

-- ---- what the core keeps

-- if the request of this id is done, its reply has the id and can be encoded
abbrev pub HasGoodReply : ℕ → Progress → Type 0
HasGoodReply id Pending = Unit {0}
HasGoodReply id (Done reply) = (reply.id ≡ id) × HasSpelling (reply_packet reply)
HasGoodReply id Sent = Unit {0}

abbrev pub IsSendable : Entry → Type 0
IsSendable entry = HasGoodReply entry.request.id entry.progress

-- The queue has at most a window of requests, the first of which is not sent. Each reply of the queue can be sent. The
-- window is at least 1, and at most that of a session.
pub record IsCore (window : ℕ) (queue : List Entry) : Type 0 where
  pub some : 1 ≤ window
  pub bounded : window ≤ full_window
  pub few : length queue ≤ window
  pub front : from_unsent queue ≡ queue
  pub sendable : AllByRecursion IsSendable queue

-- ---- requests that can be delivered

-- what holds of each value of the code: the id has 32 bits, and the bytes of the request are bytes
pub record IsValue (request : Request) : Type 0 where
  pub askable : IsAskable request
  pub ask : IsAsk request.ask

abbrev pub AreDeliverable : List Act → Type 0
AreDeliverable acts = AllByRecursion (Delivers IsValue) acts

-- ---- what acts lead to

-- from this state with nothing asked, some acts make these events and lead to this machine
pub record IsReached (start : State) (window : ℕ) (events : List Event) (machine : Machine State) : Type 0 where
  pub acts : List Act
  pub deliverable : AreDeliverable acts
  pub steps : AreActs Allowed server_clash (at_start start window) acts events machine

-- ==== What the schedules choose.

-- the state of the pseudorandom schedule after this one
abbrev pub next_state : ℕ → ℕ
next_state x = (x * 6364136223846793005 + 1442695040888963407) % 2 ^ 64

-- what it chooses in this state: the upper 31 of its 64 bits
abbrev pub upper_bits : ℕ → ℕ
upper_bits x = x / 2 ^ 33
