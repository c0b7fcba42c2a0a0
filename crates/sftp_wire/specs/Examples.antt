-- Words of the worked examples: packets with their bytes, and the server's VERSION.
use Rattle.std.specs.Prelude.{◌≡◌, ℕ, List, length, codes, Some, Ok}
use Rattle.sftp_packets.specs.declared.replies.Answer.{Answer}
use Rattle.sftp_packets.specs.declared.requests.Ask.{Ask}
use Rattle.sftp_packets.specs.declared.packets.Packet.{Packet}
use Rattle.sftp_packets.specs.declared.packets.Packet.TheVariants.{Request, Reply}
use Rattle.sftp_packets.specs.declared.packets.Side.{Side}
use Rattle.sftp_packets.specs.declared.packets.Side.TheVariants.{Client, Server}
use Rattle.sftp_packets.specs.Packets.{spelling}
use Rattle.sftp_strings.specs.Hexadecimal.{hex}
use Rattle.sftp_wire.specs.Fronts.{front_of}

-- all of the bytes are read as the packet, and the packet is spelled as the bytes
pub record IsRow (side : Side) (bytes : List ℕ) (packet : Packet) : Type 0 where
  pub read : front_of side bytes ≡ Ok (Some (packet, length bytes))
  pub spelled : spelling packet ≡ bytes

-- the same for a request with an id, its bytes in hexadecimal
abbrev pub IsAsked : List ℕ → ℕ → Ask → Type 0
IsAsked text id ask = IsRow Client (hex text) (Request (record { id = id; ask = ask }))

-- and for a reply with the id of its request
abbrev pub IsAnswered : List ℕ → ℕ → Answer → Type 0
IsAnswered text id answer = IsRow Server (hex text) (Reply (record { id = id; answer = answer }))

-- the 124 bytes of the server's VERSION
abbrev pub version_bytes : List ℕ
version_bytes = hex (codes "00000078 02 00000003 00000018 706f7369782d72656e616d65406f70656e7373682e636f6d 00000001 31 00000014 686172646c696e6b406f70656e7373682e636f6d 00000001 31 00000011 6673796e63406f70656e7373682e636f6d 00000001 31 00000012 6c696d697473407366747076332e74657374 00000001 31")
