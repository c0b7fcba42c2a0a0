use Rattle.std.proofs.Common.{◌≡◌, length}
use Rattle.sftp_text.specs.Fields.{behind_space}
use Rattle.sftp_text.proofs.names.behind_space.Given as goal

abbrev pub invariant-characters : goal.invariant-characters
invariant-characters l = behind_space l.left ≡ behind_space l.fn.text

abbrev pub decreases-characters : goal.decreases-characters
decreases-characters l = length l.left
