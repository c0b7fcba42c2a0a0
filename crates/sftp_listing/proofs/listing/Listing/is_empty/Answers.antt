use Rattle.sftp_listing.proofs.Imports.{subst, name_cmp, InOrder}
use Rattle.sftp_listing.proofs.MarkedItems.{unmarked-rises}
use Rattle.sftp_listing.proofs.listing.Listing.is_empty.Goals as goal

pub returns-clause-ordered : goal.returns-clause-ordered
returns-clause-ordered c =
    let inside = c.self.inside in
    subst (InOrder name_cmp) c.self.view_is
    (unmarked-rises inside.items.items inside.marks.items c.self.invariant.paired.ordered)
