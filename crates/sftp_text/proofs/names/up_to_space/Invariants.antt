use Rattle.std.proofs.Common.{◌≡◌, ◌++◌, take, drop}
use Rattle.sftp_text.specs.Fields.{up_to_space}
use Rattle.sftp_text.proofs.names.up_to_space.Given as goal

abbrev pub invariant-characters : goal.invariant-characters
invariant-characters l = up_to_space l.fn.text ≡ take l.i l.text ++ up_to_space (drop l.i l.text)
