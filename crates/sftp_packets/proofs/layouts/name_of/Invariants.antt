use Rattle.std.proofs.Common.{◌≡◌, length, map}
use Rattle.std.specs.Prelude.{find}
use Rattle.sftp_packets.specs.Layouts.{shape, is_of_type, name_in}
use Rattle.sftp_packets.proofs.layouts.name_of.Given as goal

abbrev pub invariant-layouts : goal.invariant-layouts
invariant-layouts l =
    name_in (find (is_of_type l.kind) (map shape l.left)) ≡ name_in (find (is_of_type l.kind) (map shape l.fn.layouts))

abbrev pub decreases-layouts : goal.decreases-layouts
decreases-layouts l = length l.left
