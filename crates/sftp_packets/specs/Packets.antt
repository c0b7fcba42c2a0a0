-- The packets (draft-ietf-secsh-filexfer-02, sections 3 to 8): how each is spelled, which reply a request may get,
-- which packets have an encoding, and how they are read.
use Rattle.std.specs.Prelude.{◌≡◌, ◌==◌, ◌||◌, ◌^◌, ◌<◌, ◌≤◌, ℕ, Bool, false, if◌then◌else◌}
use Rattle.std.specs.Prelude.{List, [], ◌∷◌, ◌++◌, length, Option, None, IfSome, Result, Ok, Err}
use Rattle.sftp_packets.specs.declared.errors.Fault.{Fault}
use Rattle.sftp_packets.specs.declared.errors.Fault.TheVariants.{Short, Trailing}
use Rattle.sftp_packets.specs.declared.requests.Ask.{Ask}
use Rattle.sftp_packets.specs.declared.replies.Answer.{Answer}
use Rattle.sftp_packets.specs.declared.packets.Packet.{Packet}
use Rattle.sftp_packets.specs.declared.packets.Packet.TheVariants.{Init, Version, Request, Reply}
use Rattle.sftp_packets.specs.declared.packets.Side.{Side}
use Rattle.sftp_packets.specs.declared.packets.Side.TheVariants.{Client, Server}
use Rattle.sftp_packets.specs.Spelling.{uint32, string, pairs, with_id, FitsPairs, packet_limit, handle_limit}
use Rattle.sftp_packets.specs.Reading.{Reader, ◌>>=◌, two, uint32_at, pairs_at}
use Rattle.sftp_packets.specs.Requests.{ask_parts, FitsAsk, asked_handle, asks_known, reply_type, request_packet_at}
use Rattle.sftp_packets.specs.Requests.{answer_parts, FitsAnswer, answered_handle, reply_packet_at}

-- ---- how packets are spelled

-- The bytes after a packet's length (draft, sections 3 and 4). A request has an id of its own, and a reply has that of
-- its request.
abbrev pub contents : Packet → List ℕ
contents (Init version extensions) = 1 ∷ uint32 version ++ pairs extensions
contents (Version version extensions) = 2 ∷ uint32 version ++ pairs extensions
contents (Request request) = with_id request.id (ask_parts request.ask)
contents (Reply reply) = with_id reply.id (answer_parts reply.answer)

-- a packet is its length, which does not count itself, and that many bytes (draft, section 3)
unfoldable pub spelling : Packet → List ℕ
spelling packet = string (contents packet)

-- who sends a packet
abbrev pub side_of : Packet → Side
side_of (Init version extensions) = Client
side_of (Version version extensions) = Server
side_of (Request request) = Client
side_of (Reply reply) = Server

-- ---- which replies a request may get

-- a STATUS, or a reply of the request's own type
abbrev pub may_get : Ask → Answer → Bool
may_get ask answer = (answer_parts answer).0 == 101 || (answer_parts answer).0 == reply_type ask

-- ---- which packets have an encoding

-- each number is in its field's range, and each string is of bytes
abbrev pub FitsFields : Packet → Type 0
FitsFields (Init version extensions) = (version < 2 ^ 32) × FitsPairs extensions
FitsFields (Version version extensions) = (version < 2 ^ 32) × FitsPairs extensions
FitsFields (Request request) = (request.id < 2 ^ 32) × FitsAsk request.ask
FitsFields (Reply reply) = (reply.id < 2 ^ 32) × FitsAnswer reply.answer

-- the handle that a packet has
abbrev pub handle_of : Packet → Option (List ℕ)
handle_of (Init version extensions) = None
handle_of (Version version extensions) = None
handle_of (Request request) = asked_handle request.ask
handle_of (Reply reply) = answered_handle reply.answer

-- whether a packet is an unknown extension with the name of one that has a request of its own
abbrev pub hides_extension : Packet → Bool
hides_extension (Init version extensions) = false
hides_extension (Version version extensions) = false
hides_extension (Request request) = asks_known request.ask
hides_extension (Reply reply) = false

-- A packet has an encoding where each field is in range, the whole and a handle are within their limits, and an
-- extension that has a request of its own is written as that. (A whole packet never has fewer than five bytes: its
-- length and its type.)
pub record HasSpelling (packet : Packet) : Type 0 where
  pub fields : FitsFields packet
  pub whole : length (spelling packet) ≤ packet_limit
  pub handle : IfSome (handle_of packet) (λ handle. length handle ≤ handle_limit)
  pub canonical : hides_extension packet ≡ false

-- ---- how packets are read

-- the fields after the type of a client's packet (draft, sections 4, 6 and 8)
unfoldable pub client_packet_at : ℕ → Reader Packet
client_packet_at kind = if kind == 1 then two uint32_at pairs_at Init else request_packet_at kind

-- the fields after the type of a server's packet (draft, sections 4, 7 and 8)
unfoldable pub server_packet_at : ℕ → Reader Packet
server_packet_at kind = if kind == 2 then two uint32_at pairs_at Version else reply_packet_at kind

-- the packets of a side, by their type
abbrev pub packet_at : Side → ℕ → Reader Packet
packet_at Client kind = client_packet_at kind
packet_at Server kind = server_packet_at kind

-- the packet after a length: its type, its fields, and nothing else
unfoldable pub packet_of : Side → List ℕ → Result Packet Fault
packet_of side [] = Err Short
packet_of side (kind ∷ body) = do
  packet ← packet_at side kind body
  if length packet.1 == 0 then Ok packet.0 else Err Trailing
