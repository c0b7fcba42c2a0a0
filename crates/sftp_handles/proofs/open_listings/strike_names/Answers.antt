use Rattle.sftp_handles.proofs.Imports.{ap, ◌∙◌, Some, sym, Listing, Left, struck}
use Rattle.sftp_handles.proofs.HandleTables.NewHandles.{struck-lent}
use Rattle.sftp_handles.proofs.open_listings.strike_names.Goals as goal

pub returns : goal.returns
returns g c =
    let left = c.listing_of-left in
    struck-lent (g.T.HandleTable.handles c.args.table.now)
    (g.T.HandleTable.handles (c.find_mut.follows.lender (Listing c.strike_all.new.self))) c.args.handle.now
    c.args.given.now left.result.now c.strike_all.new.self (sym c.in-Some.ensures.found ∙ ap Some left.ensures.found)
    (c.strike_all.ensures ∙ ap (λ (left : Left). struck left c.args.given.now) c.make_hints.ensures)
    (rw c.in-Some.is at (c.find_mut.follows.holds (Listing c.strike_all.new.self))).0
