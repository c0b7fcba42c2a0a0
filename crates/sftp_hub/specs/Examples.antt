-- What the worked example names: the frames of two clients, one of which breaks the protocol.
use Rattle.std.specs.Prelude.{List, [], ◌∷◌, ◌++◌, codes}
use Rattle.sftp_wire.specs.Examples.{version_bytes}
use Rattle.sftp_transcript.specs.Examples.{stat, attributes_reply}
use Rattle.sftp_server.specs.Examples.{init_bytes, stat_bytes, attrs_bytes, remove_and_byte, root_attributes}
use Rattle.sftp_joint.specs.Deeds.{Happening, did, left}
use Rattle.sftp_frames.specs.Frames.{Frame}

-- Clients 1 and 2 send INIT; client 2 asks for the attributes of `/` in the same frame; then client 1 sends a request
-- with a byte too many.
abbrev pub two_clients : List Frame
two_clients = (1, init_bytes) ∷ (2, init_bytes ++ stat_bytes) ∷ (1, remove_and_byte) ∷ []

-- both get VERSION, and client 2 the attributes; the session of client 1 ends
abbrev pub two_answers : List Frame
two_answers = (1, version_bytes) ∷ (2, version_bytes) ∷ (2, attrs_bytes) ∷ (1, []) ∷ []

abbrev pub served_and_left : List Happening
served_and_left = did 2 (stat 7 (codes "/")) ∷ did 2 (attributes_reply 7 root_attributes) ∷ left 1 ∷ []
