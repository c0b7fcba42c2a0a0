use Rattle.std.proofs.Common.{◌≡◌, ◌++◌, take}
use Rattle.std.specs.List.{flat_map}
use Rattle.sftp_text.specs.Digits.{hex_byte}
use Rattle.sftp_text.proofs.octets.put_octets.Given as goal

abbrev pub invariant-bytes : goal.invariant-bytes
invariant-bytes l = l.text.items ≡ l.initial.text.items ++ flat_map hex_byte (take l.byte-index l.bytes)
