-- What the worked examples name: a script, and the bytes of sessions.
use Rattle.std.specs.Prelude.{ℕ, List, [], ◌∷◌, ◌++◌, codes, Some}
use Rattle.sftp_packets.specs.declared.attributes.Attrs.{Attrs}
use Rattle.sftp_packets.specs.declared.requests.Ask.TheVariants.{Mkdir, Rmdir}
use Rattle.sftp_strings.specs.Hexadecimal.{hex}
use Rattle.sftp_packets.specs.Spelling.{no_attributes}
use Rattle.sftp_wire.specs.Examples.{version_bytes}
use Rattle.sftp_tree.specs.Picture.{blank}
use Rattle.sftp_transcript.specs.declared.events.Event.{Event}
use Rattle.sftp_transcript.specs.Examples.{mkdir, rmdir, stat, status, attributes_reply, handshake_bytes}
use Rattle.sftp_server.specs.declared.acts.Act.{Act}
use Rattle.sftp_server.specs.declared.acts.Act.TheVariants.{Deliver, Work, Send}
use Rattle.sftp_server.specs.declared.ends.Ended.{Ended}
use Rattle.sftp_transcript.specs.Transcript.{transcript_opening}
use Rattle.sftp_server.specs.Served.{Served}

-- ---- acts

-- `/a` is made by request 1 and removed by request 2. The later request is tried first, and answered first.
abbrev pub made_and_removed : List Act
made_and_removed =
    Deliver (record { id = 1; ask = Mkdir (codes "/a") no_attributes })
    ∷ Deliver (record { id = 2; ask = Rmdir (codes "/a") }) ∷ Work 1 ∷ Work 0 ∷ Work 1 ∷ Send 1 ∷ Send 0 ∷ []

-- both requests are asked; the later one is answered first, and both succeed
abbrev pub answered_backwards : List Event
answered_backwards = mkdir 1 (codes "/a") ∷ rmdir 2 (codes "/a") ∷ status 2 0 ∷ status 1 0 ∷ []

-- ---- bytes

-- INIT of version 3
abbrev pub init_bytes : List ℕ
init_bytes = hex (codes "00000005 01 00000003")

-- REMOVE of `/a` with id 1, and in its packet a byte more
abbrev pub remove_and_byte : List ℕ
remove_and_byte = hex (codes "0000000c 0d 00000001 00000002 2f61 00")

-- the first ten bytes of MKDIR of `/a` with id 1
abbrev pub mkdir_beginning : List ℕ
mkdir_beginning = hex (codes "0000000f 0e 00000001 00")

-- STAT of `/` with id 7
abbrev pub stat_bytes : List ℕ
stat_bytes = hex (codes "0000000a 11 00000007 00000001 2f")

-- its reply on the blank tree: size 0, user 0, group 0, and the permissions of a directory that its owner may write
abbrev pub root_attributes : Attrs
root_attributes = record no_attributes { size = Some 0; owner = Some (0, 0); permissions = Some 0o40755 }

abbrev pub attrs_bytes : List ℕ
attrs_bytes = hex (codes "0000001d 69 00000007 00000007 0000000000000000 00000000 00000000 000041ed")

-- the request is asked once, and answered
abbrev pub stat_answered : List Event
stat_answered = stat 7 (codes "/") ∷ attributes_reply 7 root_attributes ∷ []

-- VERSION 3 without pairs, and the log of a session in which nothing was asked behind it
abbrev pub plain_version_bytes : List ℕ
plain_version_bytes = hex (codes "00000005 02 00000003")

abbrev pub plain_handshake_bytes : List ℕ
plain_handshake_bytes = transcript_opening ++ (67 ∷ init_bytes) ++ 83 ∷ plain_version_bytes

-- ---- sessions

-- On the blank tree, after INIT, the client sends these bytes; the server writes VERSION and nothing else, and the
-- session ends so. `over`: no more input comes.
abbrev pub EndsAfterVersion : List ℕ → Type 0 → Ended → Type 0
EndsAfterVersion more over ended = Served blank (init_bytes ++ more) over version_bytes handshake_bytes ended
