use Rattle.sftp_listing.proofs.Imports.{rules, name_cmp, Item}
use Rattle.std.proofs.lemmas.Fn.{always_returns_same}
use Rattle.sftp_listing.proofs.MarkedItems.{found-named, found-gap}
use Rattle.sftp_listing.proofs.marks.place_of.Goals as goal

pub returns-clause-named : goal.returns-clause-named
returns-clause-named c =
    let items = c.args.items.now in
    found-named items.items c.args.name.now items.len c.binary_search_by.result items.ok.0
    c.binary_search_by.ensures.bound
    (c.binary_search_by.ensures.position (λ (item : Item). name_cmp item.name c.args.name.now)
    (always_returns_same _ _ _ (λ a r f' called. search rules)))

pub returns-clause-gap : goal.returns-clause-gap
returns-clause-gap c =
    let items = c.args.items.now in
    found-gap items.items c.args.name.now items.len c.binary_search_by.result items.ok.0
    c.binary_search_by.ensures.bound
    (c.binary_search_by.ensures.position (λ (item : Item). name_cmp item.name c.args.name.now)
    (always_returns_same _ _ _ (λ a r f' called. search rules)))
    c.requires
