use Rattle.sftp_tree.proofs.Imports.{◌∙◌, sym, ap, list_all, and_parts, is_step, length, arith}
use Rattle.sftp_tree.proofs.Imports.{subst, IfOk, err_from_is_err_and}
use Rattle.std.specs.Option.{IfSome}
use Rattle.sftp_tree.specs.Plans.{GoesDown}
use Rattle.sftp_tree.specs.declared.entries.directories.Child.TheVariants as children
use Rattle.sftp_tree.proofs.Walks.{plain-is_name}
use Rattle.sftp_tree.proofs.Walks.Plain.{at-start, descend, down-here, down-file, down-link, down-none, none-left}
use Rattle.sftp_tree.proofs.plain_walks.down.Goals as goal

pub descent-init : goal.descent-init
descent-init c = at-start c.args.top.now c.args.steps.left c.requires

pub child_at-requires : goal.child_at-requires
child_at-requires c =
    let name = c.in-Some.component.now in
    let step = (and_parts (is_step name) (list_all is_step c.next_step.new.steps.left)
    (ap (list_all is_step) (sym c.in-Some.ensures) ∙ c.descent.invariant.steps)).0 in
    plain-is_name name step (sym c.is_dot.ensures ∙ c.if-is_dot.false, sym c.is_dot_dot.ensures ∙ c.if-is_dot_dot.false)

pub descent-smaller : goal.descent-smaller
descent-smaller c = omega (arith, ap length c.in-Some.ensures)

pub descent-preserved : goal.descent-preserved
descent-preserved c =
    descend c.args.top.now c.args.steps.left c.descent.dir.now c.in-Some-Dir.inner c.descent.left.left
    c.in-Some.component.now c.next_step.new.steps.left c.in_ok-inner.field-0 c.in-Some-Dir.field-0 c.descent.invariant
    c.in-Some.ensures
    (sym c.is_dot.ensures ∙ c.if-is_dot.false, sym c.is_dot_dot.ensures ∙ c.if-is_dot_dot.false)
    c.in_ok-inner.ensures.below c.in_ok-inner.ensures.branch c.in-Some-Dir.is c.in-Some-Dir.field-0-is

pub returns-in-Some-File : goal.returns-in-Some-File
returns-in-Some-File c =
    down-file c.args.top.now c.args.follow c.args.steps.left c.descent.dir.now c.descent.left.left
    c.in-Some.component.now c.next_step.new.steps.left c.in_ok-inner.field-0 c.in-Some-File.field-0
    c.in-Some-File.number c.descent.invariant c.in-Some.ensures
    (none-left c.next_step.new.steps.left (sym c.is_empty-is_last.ensures ∙ c.if-is_last.true))
    (sym c.is_dot.ensures ∙ c.if-is_dot.false, sym c.is_dot_dot.ensures ∙ c.if-is_dot_dot.false)
    c.in_ok-inner.ensures.below c.in-Some-File.is c.in-Some-File.field-0-is

pub returns-in-Some-Link : goal.returns-in-Some-Link
returns-in-Some-Link c =
    down-link c.args.top.now c.args.follow c.args.steps.left c.descent.dir.now c.descent.left.left
    c.in-Some.component.now c.next_step.new.steps.left c.in_ok-inner.field-0 c.in-Some-Link.field-0
    c.as_slice.result c.descent.invariant c.in-Some.ensures
    (none-left c.next_step.new.steps.left (sym c.is_empty-is_last.ensures ∙ c.if-is_last-2.true)) c.if-not-follow.true
    (sym c.is_dot.ensures ∙ c.if-is_dot.false, sym c.is_dot_dot.ensures ∙ c.if-is_dot_dot.false)
    c.in_ok-inner.ensures.below c.in-Some-Link.is (c.in-Some-Link.field-0-is ∙ ap children.Link (sym c.as_slice.ensures))

pub returns-in-None : goal.returns-in-None
returns-in-None c =
    down-none c.args.top.now c.args.follow c.args.steps.left c.descent.dir.now c.descent.left.left
    c.in-Some.component.now c.next_step.new.steps.left c.in_ok-inner.field-0 c.descent.invariant c.in-Some.ensures
    (sym c.is_dot.ensures ∙ c.if-is_dot.false, sym c.is_dot_dot.ensures ∙ c.if-is_dot_dot.false)
    c.in_ok-inner.ensures.below c.in-None.is

pub returns : goal.returns
returns c =
    down-here c.args.top.now c.args.follow c.args.steps.left c.descent.left.left c.owner.result c.descent.dir
    c.descent.invariant c.in_default.ensures.0 c.owner.ensures.owner

pub returns-then-is_dot : goal.returns-then-is_dot
returns-then-is_dot c = tt

pub returns-in_err-inner : goal.returns-in_err-inner
returns-in_err-inner c =
    let p = err_from_is_err_and c.from_residual.result c.from_residual.ensures.1 in
    subst (λ r. IfOk r (λ found. IfSome found (GoesDown c.args.top.now c.args.follow c.args.steps.left))) (sym p.1) tt

pub returns-in-Some-File-2 : goal.returns-in-Some-File-2
returns-in-Some-File-2 c = tt

pub returns-in-Some-Link-2 : goal.returns-in-Some-Link-2
returns-in-Some-Link-2 c = tt
