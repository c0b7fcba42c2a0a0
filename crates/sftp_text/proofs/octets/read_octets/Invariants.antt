use Rattle.std.proofs.Common.{◌≡◌, length}
use Rattle.sftp_text.specs.Digits.{hex_onto}
use Rattle.sftp_text.proofs.octets.read_octets.Given as goal

abbrev pub invariant-octets : goal.invariant-octets
invariant-octets l = hex_onto l.bytes.items l.line.now ≡ hex_onto l.fn.bytes.items l.fn.line.now

abbrev pub decreases-octets : goal.decreases-octets
decreases-octets l = length l.line.now
