use Rattle.std.proofs.Common.{◌≡◌, length}
use Rattle.sftp_infer.specs.Texts.{joined}
use Rattle.sftp_infer.proofs.texts.next_part.Given as goal

-- what is left has the bytes of all parts
abbrev pub invariant-parts : goal.invariant-parts
invariant-parts l = joined l.session l.zeros l.left ≡ joined l.session l.zeros l.fn.parts

abbrev pub decreases-parts : goal.decreases-parts
decreases-parts l = length l.left
