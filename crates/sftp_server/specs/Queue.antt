-- What a queue keeps beside its requests.
use Rattle.std.specs.Prelude.{◌≡◌, nat_eq, ℕ, zero, suc, Bool, false, List, [], ◌∷◌, is_some, if◌then◌else◌, Option}
use Rattle.std.specs.Prelude.{Some, None, slice_get, ◌+◌, IsTrue}
use Rattle.std.specs.Map.{lookup}
use Rattle.sftp_packets.specs.declared.packets.Request.{Request}
use Rattle.sftp_packets.specs.declared.packets.Reply.{Reply}
use Rattle.sftp_server.specs.declared.queue.Entry.{Entry}
use Rattle.sftp_server.specs.declared.queue.Progress.{Progress}
use Rattle.sftp_server.specs.Machine.{is_pending, is_sent, is_unsent, from_unsent, reply_of, Machine, ClashOf}
use Rattle.sftp_server.specs.Machine.{is_ready, reply_at}
use Rattle.sftp_server.specs.declared.cores.Choice.{Choice}
use Rattle.sftp_server.specs.declared.cores.Choice.TheVariants.{Work, Send}
use Rattle.sftp_server.specs.declared.queue.Progress.TheVariants.{Pending, Done, Sent}

-- the request of an entry, if it is pending
abbrev pub request_in : Option Entry → Option Request
request_in None = None
request_in (Some entry) = if is_pending entry.progress then Some entry.request else None

-- the request at this position, if it is pending
abbrev pub pending_at : List Entry → ℕ → Option Request
pending_at queue k = request_in (slice_get queue k)

-- a request that there may be conflicts with a later one
abbrev pub clashes_in : {S : Type 0} → ClashOf S → S → Option Request → Request → Bool
clashes_in clash s None later = false
clashes_in clash s (Some earlier) later = clash s earlier later

abbrev pub sent_in : Option Entry → Bool
sent_in None = false
sent_in (Some entry) = is_sent entry.progress

-- the queue, with the progress of the request at the position
unfoldable pub with_progress : List Entry → ℕ → Progress → List Entry
with_progress [] k progress = []
with_progress (entry ∷ queue) zero progress = record entry { progress = progress } ∷ queue
with_progress (entry ∷ queue) (suc k) progress = entry ∷ with_progress queue k progress

-- the request at the position is done, with this id and this reply
abbrev pub HasReply : List Entry → ℕ → ℕ → Reply → Type 0
HasReply queue k id reply =
    (entry : Entry) × (slice_get queue k ≡ Some entry) × (entry.request.id ≡ id)
    × (reply_of entry.progress ≡ Some reply)

-- no two unsent requests have one id
unfoldable pub AreUnsentApart : List Entry → Type 0
AreUnsentApart [] = Unit {0}
AreUnsentApart (entry ∷ queue) =
    (is_sent entry.progress ≡ false → is_unsent entry.request.id queue ≡ false) × AreUnsentApart queue

-- the ids of the unsent requests of a queue, the first of which is not sent
pub record IsQueue (queue : List Entry) (ids : List (ℕ × Unit {0})) : Type 0 where
  pub front : from_unsent queue ≡ queue
  pub indexed : (id : ℕ) → is_some (lookup (nat_eq id) ids) ≡ is_unsent id queue
  pub apart : AreUnsentApart queue

-- ==== What a machine may do next.

-- the act is possible
abbrev pub IsPossible : {S : Type 0} → ClashOf S → Machine S → Choice → Type 0
IsPossible clash machine (Work k) = IsTrue (is_ready clash machine k)
IsPossible clash machine (Send k) = IsTrue (is_some (reply_at machine.queue k))

-- how many acts a request needs until it is answered
abbrev pub steps_left : Progress → ℕ
steps_left Pending = 2
steps_left (Done reply) = 1
steps_left Sent = 0

-- how many acts all need
unfoldable pub owed : List Entry → ℕ
owed [] = 0
owed (entry ∷ queue) = steps_left entry.progress + owed queue
