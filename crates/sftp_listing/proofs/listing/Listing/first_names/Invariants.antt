-- The names so far, and those from the place on, are all that are left.
use Rattle.sftp_listing.proofs.Imports.{◌≡◌, ◌≤◌, ◌++◌, length, map, drop, name_of, unmarked}
use Rattle.sftp_listing.proofs.listing.Listing.first_names.Given as goal

abbrev pub invariant-loop-place : goal.invariant-loop-place
invariant-loop-place l = record {
  listed :
      l.names.items
      ++ map name_of (unmarked (drop l.place l.self-inside.items.items) (drop l.place l.self-inside.marks.items))
      ≡ map name_of l.self;
  few : length l.names.items ≤ l.most;
}
