-- What a server of several clients has taken of one of them, and what it has written to it. A client's session is that
-- of a server of one client (draft-ietf-secsh-filexfer-02, sections 3 to 7), but for the bytes, which come in frames.
-- This profile's own.
use Rattle.std.specs.Prelude.{◌≡◌, ◌==◌, ◌||◌, ℕ, Bool, true, false, List, [], ◌∷◌, ◌++◌, map, length, Ok, None, IsTrue}
use Rattle.std.specs.List.{AllByRecursion}
use Rattle.sftp_packets.specs.declared.packets.Packet.{Packet}
use Rattle.sftp_packets.specs.declared.packets.Side.TheVariants.{Client, Server}
use Rattle.sftp_wire.specs.Fronts.{front_of, place_after}
use Rattle.sftp_transcript.specs.declared.events.Event.{Event}
use Rattle.sftp_transcript.specs.Transcript.{packet_of, IsEvent}
use Rattle.sftp_server.specs.declared.ends.SessionFault.{SessionFault}
use Rattle.sftp_server.specs.Served.{IsGreeting, sent_by, EndsSession, IsUnopenedBy}
use Rattle.sftp_joint.specs.Deeds.{Happening, did, left, events_of}
use Rattle.sftp_frames.specs.Frames.{Frame, read_of, has_gone, stream_of, is_ended}

-- how a client's session stands
pub data Standing : Type 0 where
  -- it goes on: more of its stream may come
  goes_on : Standing
  -- it is over: its stream ended after a whole packet
  finished : Standing
  -- it is over: the client broke the protocol
  broken : SessionFault → Standing

abbrev pub is_over : Standing → Bool
is_over goes_on = false
is_over finished = true
is_over (broken fault) = true

-- ---- what was taken

-- Why no more is taken of an open session, where the rest of what was read of the stream is at this place. `gone`: the
-- stream ended. As of a server of one client, only a fault of the protocol breaks a session.
abbrev pub IsWhyOpened : Standing → List Event → List ℕ → ℕ → Bool → Type 0
IsWhyOpened goes_on events rest place gone = (gone ≡ false) × (front_of Client rest ≡ Ok None)
IsWhyOpened finished events rest place gone = (gone ≡ true) × (rest ≡ [])
IsWhyOpened (broken fault) events rest place gone = EndsSession events rest place (IsTrue gone) fault

-- the same of a session that was not opened, of which this was read
abbrev pub IsWhyUnopened : Standing → List ℕ → Bool → Type 0
IsWhyUnopened goes_on bytes gone = (gone ≡ false) × (front_of Client bytes ≡ Ok None)
IsWhyUnopened finished bytes gone = ⊥
IsWhyUnopened (broken fault) bytes gone = IsUnopenedBy bytes (IsTrue gone) fault

-- a session with these events is open, or was: what was read is the client's packets, and then the rest
pub record IsOpenedTo (version : Packet) (bytes : List ℕ) (gone : Bool) (events : List Event) (standing : Standing)
    : Type 0 where
  pub init : Packet
  pub rest : List ℕ
  pub greeting : IsGreeting init
  pub spelled : AllByRecursion IsEvent events
  pub read : bytes ≡ sent_by Client (init ∷ version ∷ map packet_of events) ++ rest
  pub why : IsWhyOpened standing events rest
      (place_after 0 (length (sent_by Client (init ∷ version ∷ map packet_of events)))) gone

-- each complete packet of what was read is one of the session's events, or breaks it; and nothing else is
abbrev pub IsTaken : Packet → List ℕ → Bool → Bool → List Event → Standing → Type 0
IsTaken version bytes gone true events standing = IsOpenedTo version bytes gone events standing
IsTaken version bytes gone false events standing = (events ≡ []) × IsWhyUnopened standing bytes gone

-- whether the client has left
unfoldable pub has_left : ℕ → List Happening → Bool
has_left client [] = false
has_left client (did other event ∷ happenings) = has_left client happenings
has_left client (left other ∷ happenings) = other == client || has_left client happenings

-- What was taken of a client's stream from these frames is what happened to it: all packets that are complete in them,
-- and no others; and it has left exactly if its session is over.
pub record HasTaken (version : Packet) (frames : List Frame) (happenings : List Happening) (client : ℕ) : Type 0 where
  pub opened : Bool
  pub standing : Standing
  pub taken : IsTaken version (read_of client frames) (has_gone client frames) opened (events_of client happenings)
      standing
  pub leaves : has_left client happenings ≡ is_over standing

-- ---- what was written

-- the packets that a server sends in a session with these events: VERSION and replies, if it was opened
abbrev pub sent_in : Packet → Bool → List Event → List ℕ
sent_in version true events = sent_by Server (version ∷ map packet_of events)
sent_in version false events = []

-- What was written to a client, beside what was taken of it: the server's packets, and the end of the stream exactly if
-- the client has left.
pub record HasWritten (version : Packet) (frames written : List Frame) (happenings : List Happening) (client : ℕ)
    : Type 0 where
  pub taken : HasTaken version frames happenings client
  pub sent : stream_of client written ≡ sent_in version taken.opened (events_of client happenings)
  pub ended : is_ended client written ≡ has_left client happenings
