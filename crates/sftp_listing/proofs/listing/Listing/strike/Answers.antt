use Rattle.sftp_listing.proofs.Imports.{◌≡◌, subst, sym, ap, ◌∙◌, arith, name_cmp, InOrder, without, without-absent}
use Rattle.sftp_listing.proofs.Imports.{Left, unmarked}
use Rattle.sftp_listing.proofs.MarkedItems.{named-within, struck-named, struck-marked, struck-again}
use Rattle.sftp_listing.proofs.MarkedItems.{unmarked-rises, get-gap}
use Rattle.sftp_listing.proofs.listing.Listing.strike.Goals as goal

pub set_mark-requires : goal.set_mark-requires
set_mark-requires c =
    let inside = c.self.inside in
    omega (arith, named-within inside.items.items c.args.name.now c.in-Ok.place c.in-Ok.ensures.named, c.self.invariant.paired.same)

pub overflow_sub-self : goal.overflow_sub-self
overflow_sub-self c =
    let inside = c.self.inside in
    (struck-marked inside.items.items inside.marks.items inside.left c.args.name.now c.in-Ok.place c.set_mark.result
    c.self.invariant c.in-Ok.ensures.named c.set_mark.ensures.before c.if-not-set_mark.true).0

pub invariant_of-self : goal.invariant_of-self
invariant_of-self c =
    let inside = c.self.inside in
    rw c.set_mark.ensures.set
    (struck-marked inside.items.items inside.marks.items inside.left c.args.name.now c.in-Ok.place c.set_mark.result
    c.self.invariant c.in-Ok.ensures.named c.set_mark.ensures.before c.if-not-set_mark.true).1

pub returns-then-not-set_mark-clause-struck : goal.returns-then-not-set_mark-clause-struck
returns-then-not-set_mark-clause-struck c =
    let inside = c.self.inside in
    ap (unmarked inside.items.items) c.set_mark.ensures.set
    ∙ (struck-named inside.items.items inside.marks.items c.args.name.now c.in-Ok.place
    c.self.invariant.paired.ordered c.self.invariant.paired.same c.in-Ok.ensures.named
    ∙ ap (λ (left : Left). without name_cmp left c.args.name.now) c.self.view_is)

pub returns-then-not-set_mark-clause-ordered : goal.returns-then-not-set_mark-clause-ordered
returns-then-not-set_mark-clause-ordered c =
    unmarked-rises c.self.inside.items.items c.set_mark.new.marks.items c.self.invariant.paired.ordered

pub invariant_of-self-else-not-set_mark : goal.invariant_of-self-else-not-set_mark
invariant_of-self-else-not-set_mark c =
    let inside = c.self.inside in
    rw c.set_mark.ensures.set
    (struck-again inside.items.items inside.marks.items inside.left c.in-Ok.place c.set_mark.result c.self.invariant
    c.set_mark.ensures.before c.if-not-set_mark.false)

pub returns-else-not-set_mark-clause-struck : goal.returns-else-not-set_mark-clause-struck
returns-else-not-set_mark-clause-struck c =
    let inside = c.self.inside in
    ap (unmarked inside.items.items) c.set_mark.ensures.set
    ∙ (struck-named inside.items.items inside.marks.items c.args.name.now c.in-Ok.place
    c.self.invariant.paired.ordered c.self.invariant.paired.same c.in-Ok.ensures.named
    ∙ ap (λ (left : Left). without name_cmp left c.args.name.now) c.self.view_is)

pub returns-else-not-set_mark-clause-ordered : goal.returns-else-not-set_mark-clause-ordered
returns-else-not-set_mark-clause-ordered c =
    unmarked-rises c.self.inside.items.items c.set_mark.new.marks.items c.self.invariant.paired.ordered

pub returns-in-Err-clause-struck : goal.returns-in-Err-clause-struck
returns-in-Err-clause-struck c =
    let inside = c.self.inside in
    subst (λ (left : Left). left ≡ without name_cmp left c.args.name.now) c.self.view_is
    (sym
    (without-absent name_cmp (unmarked inside.items.items inside.marks.items) c.args.name.now
    (get-gap inside.items.items inside.marks.items c.args.name.now c.in-Err.field-0
    c.self.invariant.paired.ordered c.in-Err.ensures.gap)))

pub returns-in-Err-clause-ordered : goal.returns-in-Err-clause-ordered
returns-in-Err-clause-ordered c =
    let inside = c.self.inside in
    subst (InOrder name_cmp) c.self.view_is
    (unmarked-rises inside.items.items inside.marks.items c.self.invariant.paired.ordered)
