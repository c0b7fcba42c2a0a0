-- A client's session: what the server's VERSION announced, and the requests that have no reply yet
-- (draft-ietf-secsh-filexfer-02, sections 4, 6 and 7).
use Rattle.std.specs.Prelude.{◌≡◌, ℕ, ◌+◌, ◌%◌, ◌^◌, ◌<◌, ◌≤◌, List, [], ◌∷◌, ◌++◌, length}
use Rattle.std.specs.Prelude.{Option, Some, None, IsSome, if◌then◌else◌, nat_eq, nat_lt}
use Rattle.std.specs.List.{IsDistinct}
use Rattle.std.specs.Map.{lookup, remove_entry, keys_of}
use Rattle.sftp_packets.specs.declared.requests.Ask.{Ask}
use Rattle.sftp_packets.specs.declared.replies.Answer.{Answer}
use Rattle.sftp_packets.specs.declared.packets.Packet.{Packet}
use Rattle.sftp_packets.specs.declared.packets.Request.{Request}
use Rattle.sftp_packets.specs.declared.packets.Reply.{Reply}
use Rattle.sftp_client.specs.declared.errors.ClientError.{ClientError}
use Rattle.sftp_client.specs.declared.errors.ClientError.TheVariants as errors
use Rattle.sftp_client.specs.Announced.{Announced, announced_by, may_be_sent}
use Rattle.sftp_packets.specs.Packets.{may_get}

-- the requests that have no reply yet, by their ids, in the order sent
abbrev pub OpenRequests : Type 0
OpenRequests = List (ℕ × Ask)

pub record Client : Type 0 where
  -- what VERSION announced, once it came
  pub announced : Option Announced
  -- the id from which on a free one is looked for
  pub next : ℕ
  pub open_requests : OpenRequests

abbrev pub session_with : Option Announced → ℕ → OpenRequests → Client
session_with announced next requests = record { announced = announced; next = next; open_requests = requests }

-- a session before the server's VERSION
abbrev pub new_client : Client
new_client = session_with None 0 []

-- the most requests without a reply. This profile's own.
abbrev pub open_limit : ℕ
open_limit = 1024

-- the open request of an id
abbrev pub open_at : OpenRequests → ℕ → Option Ask
open_at requests id = lookup (nat_eq id) requests

-- what every session keeps
pub record IsKept (client : Client) : Type 0 where
  pub few : length client.open_requests ≤ open_limit
  pub next_fits : client.next < 2 ^ 32
  -- no two open requests have one id
  pub apart : IsDistinct nat_eq (keys_of client.open_requests)

-- ---- ids

-- the id `places` places after `id`: after 2^32 - 1 comes 0
abbrev pub id_after : ℕ → ℕ → ℕ
id_after id places = (id + places) % 2 ^ 32

-- the first id from `next` on that no open request has: those before it are skipped, since open requests have them
pub record IsFirstFree (requests : OpenRequests) (next id : ℕ) : Type 0 where
  pub skipped : ℕ
  pub behind : id ≡ id_after next skipped
  pub free : open_at requests id ≡ None
  pub taken : (places : ℕ) → places < skipped → IsSome (open_at requests (id_after next places))

-- ---- why a call is refused, memory aside: the first reason that holds

abbrev pub version_error_of : Option Announced → Option Announced → Option ClientError
version_error_of None (Some announced) = None
version_error_of None None = Some errors.BadVersion
version_error_of (Some before) announced = Some errors.BadVersion

abbrev pub version_error : Client → Packet → Option ClientError
version_error client packet = version_error_of client.announced (announced_by packet)

abbrev pub send_error_of : Option Announced → ℕ → Ask → Option ClientError
send_error_of None count ask = Some errors.NotStarted
send_error_of (Some announced) count ask =
    if nat_lt count open_limit
    then (if may_be_sent announced ask then None else Some errors.NotAnnounced)
    else Some errors.Full

abbrev pub send_error : Client → Ask → Option ClientError
send_error client ask = send_error_of client.announced (length client.open_requests) ask

abbrev pub reply_error_of : Option Announced → Option Ask → Answer → Option ClientError
reply_error_of None found answer = Some errors.NotStarted
reply_error_of (Some announced) None answer = Some errors.UnknownId
reply_error_of (Some announced) (Some ask) answer = if may_get ask answer then None else Some errors.WrongReply

abbrev pub reply_error : Client → Reply → Option ClientError
reply_error client reply = reply_error_of client.announced (open_at client.open_requests reply.id) reply.answer

-- ---- what a call does that is not refused

-- VERSION came
pub record IsStarted (old : Client) (packet : Packet) (new : Client) : Type 0 where
  pub free : version_error old packet ≡ None
  pub new_is : new ≡ record old { announced = announced_by packet }

-- A request was sent, with the first free id. It is then open, and the next id is looked for after its own.
pub record IsSent (old : Client) (request : Request) (new : Client) : Type 0 where
  pub free : send_error old request.ask ≡ None
  pub id_is : IsFirstFree old.open_requests old.next request.id
  pub new_is : new ≡ record old {
    next = id_after request.id 1;
    open_requests = old.open_requests ++ (request.id, request.ask) ∷ [];
  }

-- A reply came: the open request of its id is paired with it, and then no longer open.
pub record IsPaired (old : Client) (request : Request) (reply : Reply) (new : Client) : Type 0 where
  pub free : reply_error old reply ≡ None
  pub same_id : request.id ≡ reply.id
  pub was_open : open_at old.open_requests reply.id ≡ Some request.ask
  pub new_is : new ≡ record old { open_requests = remove_entry (nat_eq reply.id) old.open_requests }
