use Rattle.sftp_listing.proofs.Imports.{sym, ◌∙◌}
use Rattle.sftp_listing.proofs.MarkedItems.{taken-one}
use Rattle.sftp_listing.proofs.listing.Listing.take_one.Goals as goal

pub overflow_sub-self : goal.overflow_sub-self
overflow_sub-self c =
    let inside = c.self.inside in
    let next = c.take_unmarked-item.new in
    (taken-one inside.items.items inside.marks.items next.items.items next.marks.items inside.left
    c.take_unmarked-item.result c.self.invariant c.take_unmarked-item.ensures.paired
    c.take_unmarked-item.ensures.taken (sym c.is_some.ensures ∙ c.if-is_some.true)).0
