use Rattle.std.proofs.Common.{◌≡◌, length}
use Rattle.std.specs.Prelude.{find, bytes_eq}
use Rattle.sftp_profile.specs.Profiles.{name_of}
use Rattle.sftp_profile.proofs.names.first_named.Given as goal

abbrev pub invariant-departures : goal.invariant-departures
invariant-departures l =
    find (λ departure. bytes_eq (name_of departure) l.name) l.left
    ≡ find (λ departure. bytes_eq (name_of departure) l.name) l.fn.departures

abbrev pub decreases-departures : goal.decreases-departures
decreases-departures l = length l.left
