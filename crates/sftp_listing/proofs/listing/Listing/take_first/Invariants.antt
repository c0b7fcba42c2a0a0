-- The items so far, and those of the names to come, are the first ones; what is left without the names to come is what
-- will be left.
use Rattle.sftp_listing.proofs.Imports.{◌≡◌, ◌≤◌, ◌+◌, ◌++◌, length, drop, first_names, first_items}
use Rattle.std.specs.Vec.{vec_capacity}
use Rattle.std.specs.Vec.Iter.{into_iter_items, into_iter_len}
use Rattle.sftp_listing.proofs.listing.Listing.take_first.Given as goal

abbrev pub invariant-loop-longname : goal.invariant-loop-longname
invariant-loop-longname l = record {
  count : into_iter_len l.longname-iterator ≡ length (into_iter_items l.longname-iterator);
  names :
      into_iter_items l.longname-iterator
      ≡ first_names (length (into_iter_items l.longname-iterator)) l.self;
  items :
      l.items.items ++ first_items (length (into_iter_items l.longname-iterator)) l.self
      ≡ first_items (length (into_iter_items l.initial.longname-iterator)) l.initial.self;
  left :
      drop (length (into_iter_items l.longname-iterator)) l.self
      ≡ drop (length (into_iter_items l.initial.longname-iterator)) l.initial.self;
  room : length l.items.items + length (into_iter_items l.longname-iterator) ≤ vec_capacity l.items;
}
