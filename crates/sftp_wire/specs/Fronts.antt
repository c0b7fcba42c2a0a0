-- The packet in front of the bytes of a stream (draft-ietf-secsh-filexfer-02, section 3).
use Rattle.std.specs.Prelude.{◌≡◌, ◌==◌, ◌||◌, nat_lt, ℕ, ◌+◌, if◌then◌else◌, List, ◌++◌, length, take, drop, Option}
use Rattle.std.specs.Prelude.{Some, None, Result, Ok, Err, ◌⊎◌, ◌-◌, ◌^◌, min, is_some, [], ◌∷◌}
use Rattle.std.specs.Int.{w32, from_be_bytes}
use Rattle.sftp_packets.specs.declared.errors.Fault.{Fault}
use Rattle.sftp_packets.specs.declared.errors.Fault.TheVariants.{Length}
use Rattle.sftp_packets.specs.declared.errors.WireError.{WireError}
use Rattle.sftp_packets.specs.declared.errors.WireError.TheVariants as wires
use Rattle.sftp_packets.specs.declared.packets.Packet.{Packet}
use Rattle.sftp_packets.specs.declared.packets.Side.{Side}
use Rattle.sftp_packets.specs.Spelling.{packet_limit, AreBytes}
use Rattle.sftp_packets.specs.Packets.{spelling, side_of, HasSpelling, packet_of}
use Rattle.sftp_packets.specs.Reading.{◌>>=◌}
use Rattle.sftp_packets.specs.declared.errors.WireError.TheVariants.{Unreadable, NoMemory}

-- The packet in front of the bytes of a stream, and how many bytes it takes; `None` where not all of them have come. A
-- length out of range is a fault as soon as its four bytes have come.
unfoldable pub front_of : Side → List ℕ → Result (Option (Packet × ℕ)) Fault
front_of side bytes =
    if nat_lt (length bytes) 4 then Ok None else
    (let size = from_be_bytes w32 (take 4 bytes) in
    if size == 0 || nat_lt packet_limit (size + 4) then Err Length else
    if nat_lt (length bytes) (size + 4) then Ok None else
    (packet_of side (take size (drop 4 bytes)) >>= λ packet. Ok (Some (packet, size + 4))))

-- the code returns what is read, with a fault at the place of the packet's first byte, which is 0, unless memory runs
-- out
abbrev pub IsReading : {A : Type 0} → Result A WireError → Result A Fault → Type 0
IsReading (Ok x) read = read ≡ Ok x
IsReading (Err (wires.Unreadable fault place)) read = (read ≡ Err fault) × (place ≡ 0)
IsReading (Err wires.NoMemory) read = Unit {0}
IsReading (Err wires.TooLong) read = ⊥
IsReading (Err wires.NotCanonical) read = ⊥

-- the bytes begin with the encoding of a packet of that side, which takes `taken` of them
pub record StandsInFront (side : Side) (bytes : List ℕ) (packet : Packet) (taken : ℕ) : Type 0 where
  pub has_spelling : HasSpelling packet
  pub is_sent : side_of packet ≡ side
  pub is_whole : taken ≡ length (spelling packet)
  pub is_spelled : bytes ≡ spelling packet ++ drop taken bytes

-- ==== A stream of packets that arrives in pieces (draft-ietf-secsh-filexfer-02, section 3): what a buffer holds of it,
-- and how each call changes that. That the buffer is bounded, and that a fault is permanent, are this profile's own.

-- What a buffer holds of a stream: the bytes not yet taken out, the place in the stream of the first of them, and the
-- fault that was reported, if any.
pub record Frames : Type 0 where
  pub held : List ℕ
  pub place : ℕ
  pub fault : Option Fault

-- an empty buffer at the start of a stream
abbrev pub no_frames : Frames
no_frames = record { held = []; place = 0; fault = None }

-- the largest place: from there on it stays the same
abbrev pub last_place : ℕ
last_place = 2 ^ 64 - 1

-- the place `count` bytes further on
abbrev pub place_after : ℕ → ℕ → ℕ
place_after place count = min (place + count) last_place

-- How many more bytes the buffer takes: as many as the longest packet has, less those held, and none after a fault.
-- This profile's own.
abbrev pub room_of : Frames → ℕ
room_of s = if is_some s.fault then 0 else packet_limit - length s.held

-- ---- what a call returns, and what the buffer holds then

-- `push` fills the room from the front of the bytes: how many it takes, and what the buffer holds then
abbrev pub push_of : Frames → List ℕ → ℕ × Frames
push_of s bytes =
    (let taken = min (room_of s) (length bytes) in
    (taken, record { held = s.held ++ take taken bytes; place = s.place; fault = s.fault }))

-- the packet in front, unless a fault was reported before
abbrev pub front_unless : Option Fault → Result (Option (Packet × ℕ)) Fault → Result (Option (Packet × ℕ)) Fault
front_unless None front = front
front_unless (Some fault) front = Err fault

-- what `next` finds: the fault that was reported before, or what the bytes held begin with
abbrev pub told_of : Side → Frames → Result (Option (Packet × ℕ)) Fault
told_of side s = front_unless s.fault (front_of side s.held)

-- What `next` returns for what it finds, and what the buffer holds then. Without a whole packet nothing changes. A
-- packet's bytes are taken out. A fault is reported with the place of its packet's first byte, and is permanent.
abbrev pub outcome_of : Frames → Result (Option (Packet × ℕ)) Fault → Result (Option Packet) WireError × Frames
outcome_of s (Ok None) = (Ok None, s)
outcome_of s (Ok (Some front)) =
    (Ok (Some front.0), record { held = drop front.1 s.held; place = place_after s.place front.1; fault = s.fault })
outcome_of s (Err fault) =
    (Err (Unreadable fault s.place), record { held = s.held; place = s.place; fault = Some fault })

abbrev pub next_of : Side → Frames → Result (Option Packet) WireError × Frames
next_of side s = outcome_of s (told_of side s)

-- where memory runs out nothing changes; a fault that was reported before allocates nothing
pub record IsRefused (s : Frames) (given : Result (Option Packet) WireError) (t : Frames) : Type 0 where
  pub no_memory : given ≡ Err NoMemory
  pub no_fault : s.fault ≡ None
  pub unchanged : t ≡ s

-- a call and what it returns: `push` with these bytes, and how many of them it takes, or `next` for a packet of this
-- side, and its result
pub data Step : Type 0 where
  Push : List ℕ → ℕ → Step
  Next : Side → Result (Option Packet) WireError → Step

-- the call, made where the buffer holds `s`, may return that and leave it holding `t`
abbrev pub IsStep : Frames → Step → Frames → Type 0
IsStep s (Push bytes taken) t = AreBytes bytes × ((taken, t) ≡ push_of s bytes)
IsStep s (Next side given) t = ((given, t) ≡ next_of side s) ⊎ IsRefused s given t

-- ---- the law of streams

-- calls, one after the other, each with what the buffer holds after it
abbrev pub AreSteps : Frames → List (Step × Frames) → Frames → Type 0
AreSteps s [] t = s ≡ t
AreSteps s (step ∷ steps) t = IsStep s step.0 step.1 × AreSteps step.1 steps t

-- the bytes that a call takes into the buffer
abbrev pub bytes_in : Step → List ℕ
bytes_in (Push bytes taken) = take taken bytes
bytes_in (Next side given) = []

-- the encoding of the packet that a call returns
abbrev pub bytes_out : Step → List ℕ
bytes_out (Push bytes taken) = []
bytes_out (Next side (Ok None)) = []
bytes_out (Next side (Ok (Some packet))) = spelling packet
bytes_out (Next side (Err error)) = []

-- the same of all calls, in their order
abbrev pub all_in : List (Step × Frames) → List ℕ
all_in [] = []
all_in (step ∷ steps) = bytes_in step.0 ++ all_in steps

abbrev pub all_out : List (Step × Frames) → List ℕ
all_out [] = []
all_out (step ∷ steps) = bytes_out step.0 ++ all_out steps

-- ---- the bytes of the packet in front

-- the packet in front, length field and all, once it is complete; none if its length is out of range (draft, section 3)
unfoldable pub whole_of : List ℕ → Option (List ℕ)
whole_of bytes =
    if nat_lt (length bytes) 4 then None else
    (let size = from_be_bytes w32 (take 4 bytes) in
    if size == 0 || nat_lt packet_limit (size + 4) then None else
    if nat_lt (length bytes) (size + 4) then None else
    Some (take (size + 4) bytes))

-- `None` after a fault
abbrev pub lent_of : Frames → Option (List ℕ)
lent_of s = if is_some s.fault then None else whole_of s.held
