use Rattle.std.proofs.Common.{◌≡◌, ◌++◌, length}
use Rattle.sftp_infer.specs.Texts.{joined, bytes_of}
use Rattle.sftp_infer.proofs.texts.TreeText.whole.Given as goal

-- with what is left these are all bytes
abbrev pub invariant-parts : goal.invariant-parts
invariant-parts l =
    l.bytes.items ++ joined l.self.session.now l.self.zeros.items l.left ≡ bytes_of l.self

abbrev pub decreases-parts : goal.decreases-parts
decreases-parts l = length l.left
