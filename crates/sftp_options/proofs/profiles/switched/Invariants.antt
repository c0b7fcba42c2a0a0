-- The names that are left lead from the profile so far to the one that all lead to.
use Rattle.std.proofs.Common.{◌≡◌, ◌≤◌, map, length, drop}
use Rattle.sftp_options.specs.Options.{with_names}
use Rattle.sftp_options.proofs.profiles.switched.Given as goal

abbrev pub invariant-names : goal.invariant-names
invariant-names l =
    (l.name-index ≤ length l.names)
    × (with_names l.is_on l.profile (map (λ name. name.now) (drop l.name-index l.names))
    ≡ with_names l.is_on l.fn.profile (map (λ name. name.now) l.names))
