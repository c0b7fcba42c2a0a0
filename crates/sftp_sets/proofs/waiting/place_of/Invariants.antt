-- None of the requests so far waits.
use Rattle.std.proofs.Common.{◌-◌, length}
use Rattle.sftp_sets.specs.Collecting.{exchanges_of}
use Rattle.sftp_sets.proofs.Places.{IsPassed}
use Rattle.sftp_sets.proofs.waiting.place_of.Given as goal

abbrev pub decreases-places : goal.decreases-places
decreases-places l = length l.kept.items - l.place

abbrev pub invariant-places : goal.invariant-places
invariant-places l = IsPassed l.id (exchanges_of l.kept.items) l.place
