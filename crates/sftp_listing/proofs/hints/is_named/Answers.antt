use Rattle.sftp_listing.proofs.Imports.{refl, sym, ◌∙◌, arith}
use Rattle.sftp_listing.proofs.MarkedItems.{named-got}
use Rattle.sftp_listing.proofs.hints.is_named.Goals as goal

pub returns-in-Some : goal.returns-in-Some
returns-in-Some c =
    λ same.
    named-got c.args.items.now.items c.args.name.now c.args.place c.in-Some.item.now
    (omega (arith, c.in-Some.ensures.variant.0 refl, c.args.items.now.ok.0)) c.in-Some.ensures.lookup
    (sym c.eq.ensures ∙ same)
