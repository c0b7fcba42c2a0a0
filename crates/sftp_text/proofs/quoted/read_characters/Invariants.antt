use Rattle.std.proofs.Common.{◌≡◌, length}
use Rattle.sftp_text.specs.Digits.{unquoted, Plain}
use Rattle.sftp_text.proofs.quoted.read_characters.Given as goal

abbrev pub invariant-characters : goal.invariant-characters
invariant-characters l = unquoted Plain l.bytes.items l.line.now ≡ unquoted Plain l.fn.bytes.items l.fn.line.now

abbrev pub decreases-characters : goal.decreases-characters
decreases-characters l = length l.line.now
