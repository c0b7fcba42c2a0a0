-- Runs of a client's session: its calls one after the other.
use Rattle.std.specs.Prelude.{◌≡◌, List, [], ◌∷◌, map}
use Rattle.sftp_packets.specs.declared.packets.Packet.{Packet}
use Rattle.sftp_packets.specs.declared.packets.Request.{Request}
use Rattle.sftp_packets.specs.declared.packets.Reply.{Reply}
use Rattle.sftp_client.specs.Client.{Client, IsStarted, IsSent, IsPaired}

-- a call, and what it gave
pub data Call : Type 0 where
  -- `on_version` took a packet
  Started : Packet → Call
  -- `send` gave a request
  Sent : Request → Call
  -- `on_reply` paired a request with a reply
  Paired : Request → Reply → Call
  -- a call was refused
  Refused : Call

abbrev pub Takes : Client → Call → Client → Type 0
Takes old (Started packet) new = IsStarted old packet new
Takes old (Sent request) new = IsSent old request new
Takes old (Paired request reply) new = IsPaired old request reply new
Takes old Refused new = new ≡ old

abbrev pub Runs : Client → List Call → Client → Type 0
Runs start [] end = end ≡ start
Runs start (call ∷ calls) end = (mid : Client) × Takes start call mid × Runs mid calls end

-- the requests that were sent, in their order
abbrev pub sent : List Call → List Request
sent [] = []
sent (Started packet ∷ calls) = sent calls
sent (Sent request ∷ calls) = request ∷ sent calls
sent (Paired request reply ∷ calls) = sent calls
sent (Refused ∷ calls) = sent calls

-- the requests that were paired, in the order of their replies
abbrev pub paired : List Call → List Request
paired [] = []
paired (Started packet ∷ calls) = paired calls
paired (Sent request ∷ calls) = paired calls
paired (Paired request reply ∷ calls) = request ∷ paired calls
paired (Refused ∷ calls) = paired calls

-- the requests that have no reply yet, in the order sent
abbrev pub unanswered : Client → List Request
unanswered client = map (λ entry. record { id = entry.0; ask = entry.1 }) client.open_requests
