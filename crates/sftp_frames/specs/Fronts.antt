-- What is in front of the bytes that were read of frames. This profile's own.
use Rattle.std.specs.Prelude.{◌≡◌, ◌⊎◌, ◌<◌, ◌≤◌, ◌+◌, ◌-◌, ◌^◌, ℕ, List, ◌++◌, length, drop, min}
use Rattle.sftp_strings.specs.Strings.{uint32}
use Rattle.sftp_frames.specs.declared.fronts.Front.{Front}
use Rattle.sftp_frames.specs.declared.fronts.Front.TheVariants.{Whole, Part, TooLong}
use Rattle.sftp_frames.specs.Frames.{Frame, IsFrame, frame_text, frame_limit}

-- the bytes begin with this frame
pub record BeginsWithFrame (bytes : List ℕ) (frame : Frame) : Type 0 where
  pub fits : IsFrame frame
  pub rest : List ℕ
  pub bytes_are : bytes ≡ frame_text frame ++ rest

-- they begin with a client's number and this many bytes to come, of which the rest has some
pub record BeginsWithHead (bytes : List ℕ) (size : ℕ) (rest : List ℕ) : Type 0 where
  pub client : ℕ
  pub number : client < 2 ^ 32
  pub length_fits : size < 2 ^ 32
  pub bytes_are : bytes ≡ uint32 client ++ (uint32 size ++ rest)

-- no frame is whole, and more bytes may make one of what is there
abbrev pub IsPart : List ℕ → Type 0
IsPart bytes =
    (length bytes < 8)
    ⊎ ((size : ℕ) × (rest : List ℕ) × BeginsWithHead bytes size rest × (size ≤ frame_limit) × (length rest < size))

-- more bytes are to come than a frame has
abbrev pub IsTooLong : List ℕ → Type 0
IsTooLong bytes = (size : ℕ) × (rest : List ℕ) × BeginsWithHead bytes size rest × (frame_limit < size)

-- what is in front
abbrev pub IsFront : List ℕ → Front → Type 0
IsFront bytes (Whole client part) = BeginsWithFrame bytes (client, part.now)
IsFront bytes Part = IsPart bytes
IsFront bytes TooLong = IsTooLong bytes

-- ==== What a server has read of frames and not taken.

-- the bytes, and the place of the first of them in the input
pub record Held : Type 0 where
  pub bytes : List ℕ
  pub place : ℕ

-- how many bytes are held at most: as many as the longest frame has
abbrev pub held_limit : ℕ
held_limit = frame_limit + 8

abbrev pub last_place : ℕ
last_place = 2 ^ 64 - 1

abbrev pub held_without : ℕ → Held → Held
held_without count held = record { bytes = drop count held.bytes; place = min (held.place + count) last_place }
