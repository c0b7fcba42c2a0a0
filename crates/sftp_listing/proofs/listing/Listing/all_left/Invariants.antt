-- The names so far are those given, and each is left.
use Rattle.sftp_listing.proofs.Imports.{◌≡◌, true, take, list_all, names_in, is_left}
use Rattle.sftp_listing.proofs.listing.Listing.all_left.Given as goal

abbrev pub invariant-loop-item : goal.invariant-loop-item
invariant-loop-item l = record {
  given : l.given.items ≡ names_in (take l.item-index l.item-items);
  left : list_all (is_left l.self) (take l.item-index l.item-items) ≡ true;
}
