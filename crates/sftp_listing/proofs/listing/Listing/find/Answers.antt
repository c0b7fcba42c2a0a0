use Rattle.sftp_listing.proofs.Imports.{sym, ap, ◌∙◌, Attrs, Name, name_cmp, get, Left}
use Rattle.std.specs.Option.{option_map}
use Rattle.sftp_listing.proofs.MarkedItems.{get-named, get-gap}
use Rattle.sftp_listing.proofs.listing.Listing.find.Goals as goal

pub returns-in-Some : goal.returns-in-Some
returns-in-Some c =
    let inside = c.self.inside in
    ap (option_map (λ (e : Name × Attrs). e.1)) c.in-Some.ensures
    ∙ (sym
    (get-named inside.items.items inside.marks.items c.args.name.now c.in-Ok.place c.self.invariant.paired.ordered
    c.self.invariant.paired.same c.in-Ok.ensures.named)
    ∙ ap (λ (left : Left). get name_cmp left c.args.name.now) c.self.view_is)

pub returns-in-None : goal.returns-in-None
returns-in-None c =
    let inside = c.self.inside in
    ap (option_map (λ (e : Name × Attrs). e.1)) c.in-None.ensures
    ∙ (sym
    (get-named inside.items.items inside.marks.items c.args.name.now c.in-Ok.place c.self.invariant.paired.ordered
    c.self.invariant.paired.same c.in-Ok.ensures.named)
    ∙ ap (λ (left : Left). get name_cmp left c.args.name.now) c.self.view_is)

pub returns-in-Err : goal.returns-in-Err
returns-in-Err c =
    let inside = c.self.inside in
    sym
    (get-gap inside.items.items inside.marks.items c.args.name.now c.in-Err.field-0 c.self.invariant.paired.ordered
    c.in-Err.ensures.gap)
    ∙ ap (λ (left : Left). get name_cmp left c.args.name.now) c.self.view_is
