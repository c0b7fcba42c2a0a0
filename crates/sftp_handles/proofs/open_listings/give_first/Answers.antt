use Rattle.sftp_handles.proofs.Imports.{sym, ap, subst, ◌∙◌, Some, Listing, open_at, names_in, length}
use Rattle.sftp_handles.proofs.Imports.{AreFirstNames}
use Rattle.sftp_handles.proofs.HandleTables.NewHandles.{struck-lent, first-taken, first-counted, first-struck}
use Rattle.sftp_handles.proofs.open_listings.give_first.Goals as goal

pub take_first-requires-clause-names : goal.take_first-requires-clause-names
take_first-requires-clause-names g c =
    subst (λ o. AreFirstNames (length c.args.longnames.items) o c.args.longnames.items)
    (sym c.in-Some.ensures.found ∙ ap Some c.listing_of.ensures.found) c.requires.names

pub returns-clause-first : goal.returns-clause-first
returns-clause-first g c =
    first-taken c.take_first.result c.args.longnames.items c.listing_of.result.now c.take_first.new.self
    (open_at (g.T.HandleTable.handles c.args.table.now) c.args.handle.now)
    (sym c.in-Some.ensures.found ∙ ap Some c.listing_of.ensures.found) c.requires.names c.take_first.ensures.given

pub returns-clause-count : goal.returns-clause-count
returns-clause-count g c =
    first-counted c.take_first.result c.args.longnames.items c.listing_of.result.now c.take_first.new.self
    (open_at (g.T.HandleTable.handles c.args.table.now) c.args.handle.now)
    (sym c.in-Some.ensures.found ∙ ap Some c.listing_of.ensures.found) c.requires.names c.take_first.ensures.given

pub returns-clause-struck : goal.returns-clause-struck
returns-clause-struck g c =
    let before = g.T.HandleTable.handles c.args.table.now in
    let left = c.listing_of.result.now in
    let next = c.take_first.new.self in
    let there = sym c.in-Some.ensures.found ∙ ap Some c.listing_of.ensures.found in
    struck-lent before (g.T.HandleTable.handles (c.find_mut.follows.lender (Listing next))) c.args.handle.now
    (names_in c.take_first.result) left next there
    (first-struck c.take_first.result c.args.longnames.items left next (open_at before c.args.handle.now) there
    c.requires.names c.take_first.ensures.given c.requires.listing c.take_first.ensures.left)
    (rw c.in-Some.is at (c.find_mut.follows.holds (Listing next))).0
