use Rattle.sftp_listing.proofs.MarkedItems.{attrs-set}
use Rattle.sftp_listing.proofs.marks.set_attrs.Goals as goal

pub returns-in-Some : goal.returns-in-Some
returns-in-Some c =
    attrs-set c.args.items.now.items c.args.place c.in-Some.item.now c.args.attrs c.in-Some.ensures.value
