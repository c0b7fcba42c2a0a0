use Rattle.sftp_tree.proofs.Imports.{◌≡◌, ◌+◌, not, sym, ap, ◌∙◌, arith, branch, have_at_most}
use Rattle.sftp_tree.specs.declared.nodes.Node.TheVariants as nodes
use Rattle.sftp_tree.proofs.Nesting.Reach.{reach-none, reach-alone, reach-start, reach-on, reach-no, reach-end}
use Rattle.sftp_tree.proofs.entries.directories.Dir.+reaches_at_most.Goals as goal

pub returns-in_default : goal.returns-in_default
returns-in_default t c =
    let zero : c.args.room ≡ 0 = omega (arith, c.in_default.ensures) in
    ap not c.has_children.ensures ∙ reach-none c.args.self.now
    ∙ sym (ap (λ room. have_at_most room c.args.self.now) zero)

pub loop-child-init : goal.loop-child-init
loop-child-init t c =
    let is : c.args.room ≡ c.in-Some.rest + 1 = omega (arith, c.in-Some.ensures) in (
      is,
      reach-start c.args.self.now c.self.inside.owner c.self.inside.children.entries c.into_iter-child-iterator.result
          c.in-Some.rest c.args.room c.self.view_is c.into_iter-child-iterator.ensures.into_iter_gives.0 is,
    )

pub returns-then-not-reaches_at_most : goal.returns-then-not-reaches_at_most
returns-then-not-reaches_at_most t c =
    reach-no c.args.self.now c.loop-child.child-iterator c.next.new.self (c.in-Some-2.field-0-0.now, c.in-Some-2.child.now)
    c.in-Some.rest c.args.room c.in-Some-2.ensures.steps
    (ap (λ child. have_at_most c.in-Some.rest (branch child)) c.in-Dir.is
    ∙ sym c.reaches_at_most.ensures ∙ c.if-not-reaches_at_most.true) c.loop-child.invariant.1

pub loop-child-preserved-else-not-reaches_at_most : goal.loop-child-preserved-else-not-reaches_at_most
loop-child-preserved-else-not-reaches_at_most t c = (
  c.loop-child.invariant.0,
  reach-on c.args.self.now c.loop-child.child-iterator c.next.new.self (c.in-Some-2.field-0-0.now, c.in-Some-2.child.now)
      c.in-Some.rest c.args.room c.in-Some-2.ensures.steps
      (ap (λ child. have_at_most c.in-Some.rest (branch child)) c.in-Dir.is
      ∙ sym c.reaches_at_most.ensures ∙ c.if-not-reaches_at_most.false) c.loop-child.invariant.1,
)

pub loop-child-preserved-in-File : goal.loop-child-preserved-in-File
loop-child-preserved-in-File t c = (
  c.loop-child.invariant.0,
  reach-on c.args.self.now c.loop-child.child-iterator c.next.new.self (c.in-Some-2.field-0-0.now, c.in-Some-2.child.now)
      c.in-Some.rest c.args.room c.in-Some-2.ensures.steps
      (ap (λ child. have_at_most c.in-Some.rest (branch child)) c.in-File.is
      ∙ reach-alone c.in-Some.rest (nodes.File c.in-File.field-0)) c.loop-child.invariant.1,
)

pub loop-child-preserved : goal.loop-child-preserved
loop-child-preserved t c = (
  c.loop-child.invariant.0,
  reach-on c.args.self.now c.loop-child.child-iterator c.next.new.self (c.in-Some-2.field-0-0.now, c.in-Some-2.child.now)
      c.in-Some.rest c.args.room c.in-Some-2.ensures.steps
      (ap (λ child. have_at_most c.in-Some.rest (branch child)) c.in-Link.is
      ∙ reach-alone c.in-Some.rest (nodes.Link c.in-Link.field-0)) c.loop-child.invariant.1,
)

pub returns : goal.returns
returns t c = reach-end c.args.self.now c.loop-child.child-iterator c.in-Some.rest c.args.room c.in-None.ensures.steps.0
    c.loop-child.invariant.1
