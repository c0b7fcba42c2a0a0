-- Words of the worked examples.
use Rattle.std.specs.Prelude.{ℕ, true, false, [], map, Some, codes}
use Rattle.sftp_packets.specs.declared.requests.Ask.{Ask}
use Rattle.sftp_packets.specs.declared.requests.Ask.TheVariants.{Stat, Read}
use Rattle.sftp_packets.specs.declared.packets.Packet.{Packet}
use Rattle.sftp_packets.specs.declared.packets.Packet.TheVariants.{Version}
use Rattle.sftp_packets.specs.declared.packets.Reply.{Reply}
use Rattle.sftp_packets.specs.declared.replies.Answer.TheVariants.{Data, Attrs, Status, Extended}
use Rattle.sftp_packets.specs.Requests.{known_extensions}
use Rattle.sftp_packets.specs.Spelling.{no_attributes}
use Rattle.sftp_client.specs.Announced.{Announced}
use Rattle.sftp_client.specs.Client.{Client, OpenRequests, session_with}

-- no extension with a request of its own
abbrev pub nothing : Announced
nothing = map (λ name. (name, false)) known_extensions

-- each of them
abbrev pub everything : Announced
everything = map (λ name. (name, true)) known_extensions

-- a VERSION 3 without extensions
abbrev pub plain_version : Packet
plain_version = Version 3 []

-- a session after a VERSION that announced nothing
abbrev pub session : ℕ → OpenRequests → Client
session next requests = session_with (Some nothing) next requests

abbrev pub stat : Ask
stat = Stat (codes "/")

abbrev pub read : Ask
read = Read (codes "h") 0 10

abbrev pub data_for : ℕ → Reply
data_for id = record { id = id; answer = Data (codes "d") }

abbrev pub extended_for : ℕ → Reply
extended_for id = record { id = id; answer = Extended (codes "d") }

abbrev pub attributes_for : ℕ → Reply
attributes_for id = record { id = id; answer = Attrs no_attributes }

abbrev pub status_for : ℕ → Reply
status_for id = record { id = id; answer = Status 0 [] [] }
