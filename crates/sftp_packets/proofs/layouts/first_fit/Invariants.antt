use Rattle.std.proofs.Common.{◌≡◌, length, map}
use Rattle.std.specs.Prelude.{find}
use Rattle.sftp_packets.specs.Layouts.{shape, may_have}
use Rattle.sftp_packets.proofs.layouts.first_fit.Given as goal

abbrev pub invariant-layouts : goal.invariant-layouts
invariant-layouts l =
    find (may_have l.bytes) (map shape l.left) ≡ find (may_have l.bytes) (map shape l.fn.layouts)

abbrev pub decreases-layouts : goal.decreases-layouts
decreases-layouts l = length l.left
