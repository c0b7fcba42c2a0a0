use Rattle.sftp_listing.proofs.Imports.{arith}
use Rattle.sftp_listing.proofs.MarkedItems.{put-one}
use Rattle.sftp_listing.proofs.listing.Listing.add.Goals as goal

pub overflow_add-self : goal.overflow_add-self
overflow_add-self c =
    let inside = c.self.inside in
    let next = c.put_item.new.items in
    let few =
    (put-one inside.items.items inside.marks.items next.items c.put_item.new.marks.items inside.left
    c.in_ok-put_item.field-0 c.self.invariant c.in_ok-put_item.ensures.paired c.in_ok-put_item.ensures.more
    c.if-branch.true).0 in
    omega (arith, few, next.ok.0, next.small)
