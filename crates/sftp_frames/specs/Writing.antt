-- How bytes of a client's stream are written as frames. This profile's own.
use Rattle.std.specs.Prelude.{◌≡◌, ◌≢◌, ℕ, List, [], ◌++◌, Option}
use Rattle.std.specs.List.{flat_map, AllByRecursion}
use Rattle.std.specs.Io.KnownBytes.{Appends}
use Rattle.sftp_streams.specs.Streams.{AppendsPart}
use Rattle.sftp_frames.specs.Frames.{Frame, IsFrame, frame_text, frames_text}

-- a frame with some bytes of this client's stream
pub record IsPartOf (client : ℕ) (frame : Frame) : Type 0 where
  pub fits : IsFrame frame
  pub own : frame.0 ≡ client
  pub some : frame.1 ≢ []

-- frames with these bytes of the client's stream, none of which is its end
pub record AreFramesOf (client : ℕ) (bytes : List ℕ) (frames : List Frame) : Type 0 where
  pub each : AllByRecursion (IsPartOf client) frames
  pub together : flat_map (λ (frame : Frame). frame.1) frames ≡ bytes

-- known bytes grow by such frames
abbrev pub AppendsStream : ℕ → List ℕ → Option (List ℕ) → Option (List ℕ) → Type 0
AppendsStream client bytes old new =
    (frames : List Frame) × AreFramesOf client bytes frames × Appends old new (frames_text frames)

-- they grow by such frames of a beginning of the bytes, and by a beginning of the next frame
pub record AppendsStreamPart (client : ℕ) (bytes : List ℕ) (old new : Option (List ℕ)) : Type 0 where
  pub done : List ℕ
  pub next : List ℕ
  pub rest : List ℕ
  pub bytes_are : bytes ≡ done ++ (next ++ rest)
  pub fits : IsPartOf client (client, next)
  pub mid : Option (List ℕ)
  pub whole : AppendsStream client done old mid
  pub part : AppendsPart mid new (frame_text (client, next))
