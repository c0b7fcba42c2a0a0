use Rattle.std.proofs.Common.{◌≡◌, [], length}
use Rattle.sftp_text.specs.Digits.{flags_from}
use Rattle.sftp_text.proofs.flags.read_flag_names.Given as goal

abbrev pub invariant-characters : goal.invariant-characters
invariant-characters l = flags_from l.flags l.name.items l.line.now ≡ flags_from 0 [] l.fn.line.now

abbrev pub decreases-characters : goal.decreases-characters
decreases-characters l = length l.line.now
