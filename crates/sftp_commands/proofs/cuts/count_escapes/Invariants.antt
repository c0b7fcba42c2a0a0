use Rattle.std.proofs.Common.{◌≡◌, ◌+◌, ◌≤◌, length}
use Rattle.sftp_commands.specs.Going.{escapes_in}
use Rattle.sftp_commands.proofs.cuts.count_escapes.Given as goal

abbrev pub invariant-characters : goal.invariant-characters
invariant-characters l = (l.count + escapes_in l.left ≡ escapes_in l.text) × (l.count + length l.left ≤ length l.text)

abbrev pub decreases-characters : goal.decreases-characters
decreases-characters l = length l.left
