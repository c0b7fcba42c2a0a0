use Rattle.std.proofs.Common.{◌≡◌, suc, length}
use Rattle.sftp_orders.specs.Orders.{places_in, behind}
use Rattle.sftp_orders.proofs.files.read_places.Given as goal

abbrev pub decreases-places : goal.decreases-places
decreases-places l = length l.rest

abbrev pub invariant-places : goal.invariant-places
invariant-places l =
    places_in l.initial.count 1 l.initial.bytes
    ≡ behind l.places.items (places_in l.initial.count (suc (length l.places.items)) l.rest)
