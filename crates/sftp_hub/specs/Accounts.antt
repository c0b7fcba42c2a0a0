-- Times along the order in which a server took the requests of several clients. This profile's own.
use Rattle.std.specs.Prelude.{◌≤◌, ℕ, List, [], ◌∷◌}
use Rattle.sftp_joint.specs.Deeds.{Deed, answered}
use Rattle.sftp_together.specs.Sets.{Placed}

-- a request of a set of sessions that has its place, as what a server did
abbrev pub deed_of : Placed → Deed
deed_of placed = answered placed.0 placed.1.request placed.1.reply

-- Along the order no request was asked before the one in front of it, the first no earlier than this time; and no reply
-- came before its request.
unfoldable pub RiseAlong : ℕ → List Placed → Type 0
RiseAlong time [] = Unit {0}
RiseAlong time (placed ∷ order) =
    (time ≤ placed.1.asked.time) × (placed.1.asked.time ≤ placed.1.replied.time)
    × RiseAlong placed.1.asked.time order
