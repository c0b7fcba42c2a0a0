-- The bytes between a server of several clients and the program that passes them on: frames, in both directions. Each
-- has the number of a client and some bytes of its stream. This profile's own.
use Rattle.std.specs.Prelude.{◌≡◌, ◌==◌, ◌<◌, ◌≤◌, ◌+◌, ◌^◌, ◌&&◌, nat_lt, max, ℕ, Bool, true, false, List, [], ◌∷◌}
use Rattle.std.specs.Prelude.{◌++◌, length, if◌then◌else◌}
use Rattle.std.specs.List.{flat_map}
use Rattle.sftp_strings.specs.Strings.{uint32, string}

-- the number of a client, and some bytes of its stream; none: its stream ends
abbrev pub Frame : Type 0
Frame = ℕ × List ℕ

-- the most bytes of a stream in one frame
abbrev pub frame_limit : ℕ
frame_limit = 65536

pub record IsFrame (frame : Frame) : Type 0 where
  pub client : frame.0 < 2 ^ 32
  pub few : length frame.1 ≤ frame_limit

-- the client's number, how many bytes there are, and these
abbrev pub frame_text : Frame → List ℕ
frame_text frame = uint32 frame.0 ++ string frame.1

abbrev pub frames_text : List Frame → List ℕ
frames_text frames = flat_map frame_text frames

-- ---- one client's stream

abbrev pub has_no_bytes : List ℕ → Bool
has_no_bytes [] = true
has_no_bytes (byte ∷ bytes) = false

-- the frame ends this client's stream
abbrev pub ends_stream : ℕ → Frame → Bool
ends_stream client frame = frame.0 == client && has_no_bytes frame.1

-- the bytes of a client's stream: those of its frames up to its end, after which nothing counts
unfoldable pub stream_of : ℕ → List Frame → List ℕ
stream_of client [] = []
stream_of client (frame ∷ frames) =
    if ends_stream client frame then [] else
    if frame.0 == client then frame.1 ++ stream_of client frames else stream_of client frames

-- whether the end of the client's stream is among the frames
unfoldable pub is_ended : ℕ → List Frame → Bool
is_ended client [] = false
is_ended client (frame ∷ frames) = if ends_stream client frame then true else is_ended client frames

-- Whether the client's stream begins in the frames. Clients are numbered in the order in which they come: the stream of
-- one that a higher number came before does not begin, and its frames count for nothing. So a late frame of a client
-- that is gone is none of a new one.
unfoldable pub begins : ℕ → List Frame → Bool
begins client [] = false
begins client (frame ∷ frames) =
    if frame.0 == client then true else if nat_lt client frame.0 then false else begins client frames

-- one more than the highest number of a client that a frame has
unfoldable pub next_client : List Frame → ℕ
next_client [] = 0
next_client (frame ∷ frames) = max (frame.0 + 1) (next_client frames)

-- what a server has of a client's stream, from the frames that it read
abbrev pub read_of : ℕ → List Frame → List ℕ
read_of client frames = if begins client frames then stream_of client frames else []

-- whether it has read that this stream ended
abbrev pub has_gone : ℕ → List Frame → Bool
has_gone client frames = begins client frames && is_ended client frames

-- no frame is this client's
unfoldable pub IsAway : ℕ → List Frame → Type 0
IsAway client [] = Unit {0}
IsAway client (frame ∷ frames) = ((frame.0 == client) ≡ false) × IsAway client frames

-- no frame of a client comes after the end of its stream
unfoldable pub AreInTime : List Frame → Type 0
AreInTime [] = Unit {0}
AreInTime (frame ∷ frames) = (has_no_bytes frame.1 ≡ true → IsAway frame.0 frames) × AreInTime frames
