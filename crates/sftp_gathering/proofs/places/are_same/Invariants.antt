-- The names so far are the same.
use Rattle.std.proofs.Common.{◌≡◌, List, take, map}
use Rattle.sftp_gathering.proofs.places.are_same.Given as goal

abbrev pub invariant-names : goal.invariant-names
invariant-names l = take l.place l.found ≡ take l.place (map (λ name. name.now) l.names)
