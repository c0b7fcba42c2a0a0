use Rattle.std.proofs.Common.{◌≡◌, length, map}
use Rattle.std.specs.Prelude.{find, bytes_eq}
use Rattle.sftp_packets.specs.Layouts.{shape}
use Rattle.sftp_text.proofs.names.first_named.Given as goal

abbrev pub invariant-layouts : goal.invariant-layouts
invariant-layouts l =
    find (λ s. bytes_eq s.name l.name) (map shape l.left) ≡ find (λ s. bytes_eq s.name l.name) (map shape l.fn.layouts)

abbrev pub decreases-layouts : goal.decreases-layouts
decreases-layouts l = length l.left
