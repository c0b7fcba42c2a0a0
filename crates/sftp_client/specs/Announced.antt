-- What the server's VERSION announces, and which requests may be sent then (draft-ietf-secsh-filexfer-02, section 4;
-- OpenSSH's PROTOCOL, section 4).
use Rattle.std.specs.Prelude.{◌&&◌, ℕ, Bool, true, List, map, Option, Some, None, if◌then◌else◌, nat_eq, bytes_eq}
use Rattle.std.specs.List.{list_any}
use Rattle.sftp_packets.specs.declared.requests.Ask.{Ask}
use Rattle.sftp_packets.specs.declared.packets.Packet.{Packet}
use Rattle.sftp_packets.specs.declared.packets.Packet.TheVariants.{Init, Version, Request, Reply}
use Rattle.sftp_packets.specs.Requests.{known_extensions, ask_row}

-- the known extensions, each with whether a VERSION named it
abbrev pub Announced : Type 0
Announced = List (List ℕ × Bool)

-- one of the extensions has this name, with any data
abbrev pub is_named : List ℕ → List (List ℕ × List ℕ) → Bool
is_named name extensions = list_any (λ extension. bytes_eq name extension.0) extensions

-- which of them are among the extensions of a VERSION
abbrev pub named_in : List (List ℕ × List ℕ) → Announced
named_in extensions = map (λ name. (name, is_named name extensions)) known_extensions

-- what a packet announces, if it is a VERSION 3
abbrev pub announced_by : Packet → Option Announced
announced_by (Init version extensions) = None
announced_by (Version version extensions) = if nat_eq version 3 then Some (named_in extensions) else None
announced_by (Request request) = None
announced_by (Reply reply) = None

-- whether the extension of a name was announced
abbrev pub is_announced : Announced → List ℕ → Bool
is_announced announced name = list_any (λ extension. bytes_eq name extension.0 && extension.1) announced

abbrev pub may_be_named : Announced → Option (List ℕ) → Bool
may_be_named announced None = true
may_be_named announced (Some name) = is_announced announced name

-- a request may be sent: an extension with a request of its own only if it was announced
abbrev pub may_be_sent : Announced → Ask → Bool
may_be_sent announced ask = may_be_named announced (ask_row ask).extension
