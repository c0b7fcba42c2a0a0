-- Several sessions as one. A history has what all clients asked and were replied, in one order. Two clients may use the
-- same ids, and get handles of the same name, so neither says whose it is: in the joint session the client's number is
-- part of an id, and comes before the name of a handle. This profile's own.
use Rattle.std.specs.Prelude.{◌≡◌, ◌==◌, ◌<◌, ◌+◌, ◌*◌, ◌^◌, ℕ, List, [], ◌∷◌, ◌++◌}
use Rattle.std.specs.Prelude.{IsTrue, if◌then◌else◌, ◌&&◌, nat_le, nat_lt, Bool}
use Rattle.std.specs.Option.{option_map}
use Rattle.std.specs.List.{AllByRecursion}
use Rattle.sftp_strings.specs.Strings.{uint32}
use Rattle.sftp_packets.specs.declared.requests.Ask.{Ask}
use Rattle.sftp_packets.specs.declared.requests.Ask.TheVariants as asks
use Rattle.sftp_packets.specs.declared.replies.Answer.{Answer}
use Rattle.sftp_packets.specs.declared.replies.Answer.TheVariants as answers
use Rattle.sftp_packets.specs.declared.packets.Request.{Request}
use Rattle.sftp_packets.specs.declared.packets.Reply.{Reply}
use Rattle.sftp_transcript.specs.declared.events.Event.{Event}
use Rattle.sftp_transcript.specs.declared.events.Event.TheVariants.{Asked, Replied}
use Rattle.sftp_transcript.specs.Explained.{Matching, in_window, leading_pairs, next_reply, Run, StepOf}
use Rattle.sftp_transcript.specs.Explained.{Exchange}

-- ---- histories

-- one event of a history: the number of the client, and what it asked or was replied
abbrev pub Moment : Type 0
Moment = ℕ × Event

-- the session of one client
unfoldable pub of_client : ℕ → List Moment → List Event
of_client client [] = []
of_client client (moment ∷ moments) =
    if moment.0 == client then moment.1 ∷ of_client client moments else of_client client moments

-- the history is one order of these sessions, each that of the client of its number
abbrev pub IsHistoryOf : (ℕ → List Event) → List Moment → Type 0
IsHistoryOf sessions moments = (client : ℕ) → of_client client moments ≡ sessions client

-- ---- the joint session

-- the id of a client's request there; ids have 32 bits
abbrev pub joint_id : ℕ → ℕ → ℕ
joint_id client id = client * 2 ^ 32 + id

-- the name of a client's handle there
abbrev pub joint_handle : ℕ → List ℕ → List ℕ
joint_handle client handle = uint32 client ++ handle

-- a request, with the joint name of the handle that it names
abbrev pub joint_ask : ℕ → Ask → Ask
joint_ask client (asks.Close handle) = asks.Close (joint_handle client handle)
joint_ask client (asks.Read handle offset len) = asks.Read (joint_handle client handle) offset len
joint_ask client (asks.Write handle offset bytes) = asks.Write (joint_handle client handle) offset bytes
joint_ask client (asks.Fstat handle) = asks.Fstat (joint_handle client handle)
joint_ask client (asks.Fsetstat handle attrs) = asks.Fsetstat (joint_handle client handle) attrs
joint_ask client (asks.Readdir handle) = asks.Readdir (joint_handle client handle)
joint_ask client (asks.Fsync handle) = asks.Fsync (joint_handle client handle)
-- these name no handle; each has its line, so that a new request needs one
joint_ask client (asks.Open path pflags attrs) = asks.Open path pflags attrs
joint_ask client (asks.Lstat path) = asks.Lstat path
joint_ask client (asks.Setstat path attrs) = asks.Setstat path attrs
joint_ask client (asks.Opendir path) = asks.Opendir path
joint_ask client (asks.Remove path) = asks.Remove path
joint_ask client (asks.Mkdir path attrs) = asks.Mkdir path attrs
joint_ask client (asks.Rmdir path) = asks.Rmdir path
joint_ask client (asks.Realpath path) = asks.Realpath path
joint_ask client (asks.Stat path) = asks.Stat path
joint_ask client (asks.Rename oldpath newpath) = asks.Rename oldpath newpath
joint_ask client (asks.Readlink path) = asks.Readlink path
joint_ask client (asks.Symlink targetpath linkpath) = asks.Symlink targetpath linkpath
joint_ask client (asks.PosixRename oldpath newpath) = asks.PosixRename oldpath newpath
joint_ask client (asks.Hardlink oldpath newpath) = asks.Hardlink oldpath newpath
joint_ask client asks.Limits = asks.Limits
joint_ask client (asks.Unknown name rest) = asks.Unknown name rest

-- an answer, with the joint name of the handle that it gives
abbrev pub joint_answer : ℕ → Answer → Answer
joint_answer client (answers.Handle handle) = answers.Handle (joint_handle client handle)
joint_answer client (answers.Status code message language) = answers.Status code message language
joint_answer client (answers.Data bytes) = answers.Data bytes
joint_answer client (answers.Name items) = answers.Name items
joint_answer client (answers.Attrs attrs) = answers.Attrs attrs
joint_answer client (answers.Extended bytes) = answers.Extended bytes

-- both with joint ids
abbrev pub joint_request : ℕ → Request → Request
joint_request client request =
    record { id = joint_id client request.id; ask = joint_ask client request.ask }

abbrev pub joint_reply : ℕ → Reply → Reply
joint_reply client reply = record { id = joint_id client reply.id; answer = joint_answer client reply.answer }

-- an event of the joint session
abbrev pub joint_event : ℕ → Event → Event
joint_event client (Asked request) = Asked (joint_request client request)
joint_event client (Replied reply) = Replied (joint_reply client reply)

-- the history as the events of one session
unfoldable pub merged : List Moment → List Event
merged [] = []
merged (moment ∷ moments) = joint_event moment.0 moment.1 ∷ merged moments

-- ---- without joint ids

-- each request in the order asked, with the next reply of its id that its own client was given; handles are joint ones
unfoldable pub exchanges_together : List Moment → List Exchange
exchanges_together [] = []
exchanges_together ((client, Asked request) ∷ moments) =
    (joint_request client request, option_map (joint_reply client) (next_reply request.id (of_client client moments)))
    ∷ exchanges_together moments
exchanges_together ((client, Replied reply) ∷ moments) = exchanges_together moments

-- What it means that several sessions are explained together, by one order of all that was asked and replied: each
-- session for itself takes turns and keeps its window, and the requests of all, carried out singly and in sequence,
-- allow these replies.
pub record ExplainedTogether {S : Type 0} (step : StepOf S) (start : S) (moments : List Moment) (end : S)
    : Type 0 where
  pub matching : (client : ℕ) → Matching (of_client client moments)
  pub within_window : (client : ℕ) → IsTrue (in_window (of_client client moments))
  pub run : Run step start (leading_pairs (exchanges_together moments)) end

-- ---- ids that fit

-- the id of an event
abbrev pub id_of : Event → ℕ
id_of (Asked request) = request.id
id_of (Replied reply) = reply.id

-- the id of an event has 32 bits, as in every value of the code
abbrev pub HasId : Moment → Type 0
HasId moment = id_of moment.1 < 2 ^ 32

-- each does
abbrev pub HaveIds : List Moment → Type 0
HaveIds moments = AllByRecursion HasId moments

-- ---- one client's part

-- the exchanges of one client among joint ones
unfoldable pub joint_exchanges : ℕ → List Exchange → List Exchange
joint_exchanges client [] = []
joint_exchanges client ((request, reply) ∷ exchanges) =
    (joint_request client request, option_map (joint_reply client) reply) ∷ joint_exchanges client exchanges

-- whether an id of the joint session is one of this client's
abbrev pub is_by : ℕ → ℕ → Bool
is_by client id = nat_le (joint_id client 0) id && nat_lt id (joint_id (client + 1) 0)

-- the exchanges that are this client's
unfoldable pub exchanges_by : ℕ → List Exchange → List Exchange
exchanges_by client [] = []
exchanges_by client ((request, reply) ∷ exchanges) =
    if is_by client request.id then (request, reply) ∷ exchanges_by client exchanges
    else exchanges_by client exchanges
