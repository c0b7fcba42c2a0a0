-- The directories so far are closed, and what is open is a part of what was.
use Rattle.sftp_tree.proofs.Imports.{◌≡◌, ◌≤◌, length, take, names_in, place_in}
use Rattle.sftp_tree.proofs.entries.growing.Growth.close_below.Given as goal

abbrev pub invariant-levels : goal.invariant-levels
invariant-levels l = record {
  names : names_in l.self ≡ names_in l.initial.self;
  place : place_in l.self ≡ take (length (place_in l.self)) (place_in l.initial.self);
  within : length (place_in l.self) ≤ length (place_in l.initial.self);
  depth : l.depth ≤ length (place_in l.self);
}

abbrev pub decreases-levels : goal.decreases-levels
decreases-levels l = length (place_in l.self)
