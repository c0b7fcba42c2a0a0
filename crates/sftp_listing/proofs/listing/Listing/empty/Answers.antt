use Rattle.sftp_listing.proofs.MarkedItems.{nothing-marked}
use Rattle.sftp_listing.proofs.listing.Listing.empty.Goals as goal

pub invariant_of-result : goal.invariant_of-result
invariant_of-result c = rw (c.new.ensures.items, c.new-2.ensures.items) nothing-marked
