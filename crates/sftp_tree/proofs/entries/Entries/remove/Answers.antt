use Rattle.sftp_tree.proofs.Imports.{[], sym, ◌∙◌, arith}
use Rattle.sftp_tree.proofs.Nesting.Changes.{still-branch}
use Rattle.sftp_tree.proofs.Nesting.Entries.{removed-left, removed-one, removed-none, removed-nothing}
use Rattle.sftp_tree.proofs.entries.Entries.remove.Goals as goal

-- ---- where a child was

pub overflow_sub-self : goal.overflow_sub-self
overflow_sub-self c =
    let fewer = removed-one c.args.self.now c.self.inside.root c.take.new.self c.args.place.now c.in-Some.parent.now
    c.in-Some.name.now c.self.view_is (sym c.names.ensures.names ∙ c.in-Some.ensures.cases.0) c.self.invariant.0
    c.take.result c.in-Some-take.child c.requires.empty c.take.ensures.left c.take.ensures.gone c.take.ensures.whole
    c.in-Some-take.is in
    omega (arith, fewer, c.self.invariant.1)

pub invariant_of-self : goal.invariant_of-self
invariant_of-self c =
    let fewer = removed-one c.args.self.now c.self.inside.root c.take.new.self c.args.place.now c.in-Some.parent.now
    c.in-Some.name.now c.self.view_is (sym c.names.ensures.names ∙ c.in-Some.ensures.cases.0) c.self.invariant.0
    c.take.result c.in-Some-take.child c.requires.empty c.take.ensures.left c.take.ensures.gone c.take.ensures.whole
    c.in-Some-take.is in (
      still-branch c.self.inside.root c.take.new.self [] c.in-Some.parent.now c.in-Some.name.now c.self.invariant.0
          c.take.ensures.left,
      omega (arith, fewer, c.self.invariant.1),
    )

pub returns-in-Some-take-clause-left : goal.returns-in-Some-take-clause-left
returns-in-Some-take-clause-left c =
    removed-left c.args.self.now c.self.inside.root c.take.new.self c.args.place.now c.in-Some.parent.now
    c.in-Some.name.now c.self.view_is (sym c.names.ensures.names ∙ c.in-Some.ensures.cases.0) c.self.invariant.0
    c.requires.empty c.take.ensures.left

-- ---- where none was

pub invariant_of-self-in-None : goal.invariant_of-self-in-None
invariant_of-self-in-None c = (
  still-branch c.self.inside.root c.take.new.self [] c.in-Some.parent.now c.in-Some.name.now c.self.invariant.0
      c.take.ensures.left,
  c.self.invariant.1
      ∙ sym (removed-none c.args.self.now c.self.inside.root c.take.new.self c.args.place.now c.in-Some.parent.now
      c.in-Some.name.now c.self.view_is (sym c.names.ensures.names ∙ c.in-Some.ensures.cases.0) c.self.invariant.0
      c.take.result c.requires.empty c.take.ensures.left c.take.ensures.gone c.in-None.is),
)

pub returns-in-None-clause-gone : goal.returns-in-None-clause-gone
returns-in-None-clause-gone c =
    removed-nothing c.args.self.now c.self.inside.root c.take.new.self c.args.place.now c.in-Some.parent.now
    c.in-Some.name.now c.self.view_is (sym c.names.ensures.names ∙ c.in-Some.ensures.cases.0) c.self.invariant.0
    c.take.result c.take.ensures.gone c.in-None.is

pub returns-in-None-clause-left : goal.returns-in-None-clause-left
returns-in-None-clause-left c =
    removed-left c.args.self.now c.self.inside.root c.take.new.self c.args.place.now c.in-Some.parent.now
    c.in-Some.name.now c.self.view_is (sym c.names.ensures.names ∙ c.in-Some.ensures.cases.0) c.self.invariant.0
    c.requires.empty c.take.ensures.left
