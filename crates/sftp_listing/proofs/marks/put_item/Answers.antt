use Rattle.sftp_listing.proofs.Imports.{arith, Item}
use Rattle.sftp_listing.proofs.MarkedItems.{named-within, gap-within, put-named, put-gap, put-paired}
use Rattle.sftp_listing.proofs.MarkedItems.{put-count, inserted-paired, inserted-count}
use Rattle.sftp_listing.proofs.marks.put_item.Goals as goal

pub set_attrs-requires : goal.set_attrs-requires
set_attrs-requires c = named-within c.args.items.now.items c.args.name c.in-Ok.place c.in-Ok.ensures.named

pub set_mark-requires : goal.set_mark-requires
set_mark-requires c =
    omega (arith, named-within c.args.items.now.items c.args.name c.in-Ok.place c.in-Ok.ensures.named, c.requires.same)

pub insert_item-requires-clause-place : goal.insert_item-requires-clause-place
insert_item-requires-clause-place c =
    gap-within c.args.items.now.items c.args.name c.in-Err.place c.in-Err.ensures.gap

pub returns-in-Ok-clause-paired : goal.returns-in-Ok-clause-paired
returns-in-Ok-clause-paired c =
    rw (c.set_attrs.ensures, c.set_mark.ensures.set)
    (put-paired c.args.items.now.items c.args.marks.now.items c.args.attrs c.in-Ok.place c.requires)

pub returns-in-Ok-clause-added : goal.returns-in-Ok-clause-added
returns-in-Ok-clause-added c =
    rw (c.set_attrs.ensures, c.set_mark.ensures.set)
    (put-named c.args.items.now.items c.args.marks.now.items c.args.name c.args.attrs c.in-Ok.place
    c.requires.ordered c.in-Ok.ensures.named)

pub returns-in-Ok-clause-more : goal.returns-in-Ok-clause-more
returns-in-Ok-clause-more c =
    rw (c.set_attrs.ensures, c.set_mark.ensures.set)
    (put-count c.args.items.now.items c.args.marks.now.items c.args.name c.args.attrs c.in-Ok.place c.set_mark.result
    c.requires c.in-Ok.ensures.named c.set_mark.ensures.before)

pub returns-in_ok-insert_item-in-Err-clause-paired : goal.returns-in_ok-insert_item-in-Err-clause-paired
returns-in_ok-insert_item-in-Err-clause-paired c =
    let item : Item = record { name = c.args.name; attrs = c.args.attrs } in
    rw (c.in_ok-insert_item-in-Err.ensures.items, c.in_ok-insert_item-in-Err.ensures.marks)
    (inserted-paired c.args.items.now.items c.args.marks.now.items item c.in-Err.place c.requires c.in-Err.ensures.gap)

pub returns-in_ok-insert_item-in-Err-clause-added : goal.returns-in_ok-insert_item-in-Err-clause-added
returns-in_ok-insert_item-in-Err-clause-added c =
    let item : Item = record { name = c.args.name; attrs = c.args.attrs } in
    rw (c.in_ok-insert_item-in-Err.ensures.items, c.in_ok-insert_item-in-Err.ensures.marks)
    (put-gap c.args.items.now.items c.args.marks.now.items item c.in-Err.place c.requires.ordered c.requires.same
    c.in-Err.ensures.gap)

pub returns-in_ok-insert_item-in-Err-clause-more : goal.returns-in_ok-insert_item-in-Err-clause-more
returns-in_ok-insert_item-in-Err-clause-more c =
    let item : Item = record { name = c.args.name; attrs = c.args.attrs } in
    rw (c.in_ok-insert_item-in-Err.ensures.items, c.in_ok-insert_item-in-Err.ensures.marks)
    (inserted-count c.args.items.now.items c.args.marks.now.items item c.in-Err.place c.requires c.in-Err.ensures.gap)
