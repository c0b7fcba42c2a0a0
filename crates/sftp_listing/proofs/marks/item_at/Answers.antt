use Rattle.sftp_listing.proofs.Imports.{refl, sym, arith}
use Rattle.sftp_listing.proofs.MarkedItems.{at-struck, at-got, at-none}
use Rattle.sftp_listing.proofs.marks.item_at.Goals as goal

pub returns-then-struck : goal.returns-then-struck
returns-then-struck c =
    sym
    (at-struck c.args.items.now.items c.args.marks.now.items c.args.place c.in-Some.struck.now
    (omega (arith, c.in-Some.ensures.variant.0 refl, c.args.marks.now.ok.0)) c.in-Some.ensures.lookup c.if-struck.true)

pub returns-else-struck : goal.returns-else-struck
returns-else-struck c =
    at-got c.args.items.now.items c.args.marks.now.items c.args.place c.args.items.now.len c.in-Some.struck.now
    c.get-else-struck.result (omega (arith, c.in-Some.ensures.variant.0 refl, c.args.marks.now.ok.0)) c.requires
    c.in-Some.ensures.lookup c.if-struck.false c.args.items.now.ok.0 c.get-else-struck.ensures.variant
    c.get-else-struck.ensures.lookup

pub returns-in-None : goal.returns-in-None
returns-in-None c =
    sym
    (at-none c.args.items.now.items c.args.marks.now.items c.args.place c.args.marks.now.len c.args.marks.now.ok.0
    (λ within. c.in-None.ensures.variant.1 within))
