use Rattle.std.proofs.Common.{◌≡◌, suc, length}
use Rattle.std.specs.Prelude.{None}
use Rattle.std.specs.Option.{option_map}
use Rattle.sftp_orders.specs.Orders.{names_in, prepend}
use Rattle.sftp_orders.proofs.files.read_names.Given as goal

abbrev pub decreases-names : goal.decreases-names
decreases-names l = l.left

abbrev pub invariant-names : goal.invariant-names
invariant-names l =
    names_in l.initial.count 1 None l.initial.bytes
    ≡ prepend l.names.items (names_in l.left (suc (length l.names.items)) (option_map (λ text. text.now) l.last) l.rest)
