use Rattle.sftp_listing.proofs.Imports.{is_left, rules}
use Rattle.sftp_packets.specs.declared.names.NameItem.{NameItem}
use Rattle.std.proofs.lemmas.List.{map_more}
use Rattle.std.proofs.lemmas.List.Folds.{list_all_at, list_all_more}
use Rattle.sftp_listing.proofs.listing.Listing.all_left.Goals as goal

pub loop-item-preserved : goal.loop-item-preserved
loop-item-preserved c =
    let items = c.as_slice-item-items.result.now in
    let i = c.loop-item.item-index in
    let given = map_more (λ (item : NameItem). item.filename) items i c.item-item.result c.loop-item-test.true in
    let left = list_all_more (is_left c.args.self.now) items i c.item-item.result c.loop-item-test.true in
    record { given = search rules; left = search rules }

pub returns-in-None-clause-left : goal.returns-in-None-clause-left
returns-in-None-clause-left c = search (rules, list_all_at)
