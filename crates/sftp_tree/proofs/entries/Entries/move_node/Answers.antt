use Rattle.sftp_tree.proofs.Imports.{sym, ap, ◌∙◌, arith, Names, node_at}
use Rattle.sftp_tree.proofs.Nesting.Entries.{not-above, moved-is, moved-one, moved-none, moved-branch, gone-none}
use Rattle.sftp_tree.proofs.entries.Entries.move_node.Goals as goal

pub move_child-requires-clause-alone : goal.move_child-requires-clause-alone
move_child-requires-clause-alone c =
    not-above c.args.self.now c.args.old.now c.args.new.now c.requires.taken c.requires.apart c.requires.alone

-- ---- where a node was at the new place

pub overflow_sub-self : goal.overflow_sub-self
overflow_sub-self c =
    let fewer = moved-one c.args.self.now c.self.inside.root c.move_child.new.self c.args.old.now c.args.new.now
    c.self.view_is c.self.invariant.0 c.requires.taken c.requires.apart c.requires.alone c.in_ok-gone.ensures.ok
    c.in_ok-gone.gone c.in-Some.child c.in_ok-gone.ensures.gone c.in_ok-gone.ensures.whole c.in-Some.is in
    omega (arith, fewer, c.self.invariant.1)

pub invariant_of-self-in-Some : goal.invariant_of-self-in-Some
invariant_of-self-in-Some c =
    let fewer = moved-one c.args.self.now c.self.inside.root c.move_child.new.self c.args.old.now c.args.new.now
    c.self.view_is c.self.invariant.0 c.requires.taken c.requires.apart c.requires.alone c.in_ok-gone.ensures.ok
    c.in_ok-gone.gone c.in-Some.child c.in_ok-gone.ensures.gone c.in_ok-gone.ensures.whole c.in-Some.is in (
      moved-branch c.args.old.now c.args.new.now c.self.inside.root c.move_child.new.self c.requires.old_below_root
          c.requires.new_below_root c.self.invariant.0 c.in_ok-gone.ensures.ok,
      omega (arith, fewer, c.self.invariant.1),
    )

pub returns-in-Some-clause-moved : goal.returns-in-Some-clause-moved
returns-in-Some-clause-moved c =
    moved-is c.args.self.now c.self.inside.root c.move_child.new.self c.args.old.now c.args.new.now
    c.self.view_is c.self.invariant.0 c.requires.taken c.requires.apart c.requires.alone c.in_ok-gone.ensures.ok

-- ---- where none was

pub invariant_of-self-in-None : goal.invariant_of-self-in-None
invariant_of-self-in-None c = (
  moved-branch c.args.old.now c.args.new.now c.self.inside.root c.move_child.new.self c.requires.old_below_root
      c.requires.new_below_root c.self.invariant.0 c.in_ok-gone.ensures.ok,
  c.self.invariant.1
      ∙ sym (moved-none c.args.self.now c.self.inside.root c.move_child.new.self c.args.old.now c.args.new.now
      c.self.view_is c.self.invariant.0 c.requires.taken c.requires.apart c.requires.alone c.in_ok-gone.ensures.ok
      c.in_ok-gone.gone c.in_ok-gone.ensures.gone c.in-None.is),
)

pub returns-in-None-clause-gone : goal.returns-in-None-clause-gone
returns-in-None-clause-gone c =
    gone-none c.in_ok-gone.gone (node_at c.self.inside.root c.args.new.now) c.in-None.is c.in_ok-gone.ensures.gone
    ∙ ap (λ (names : Names). node_at names c.args.new.now) c.self.view_is

pub returns-in-None-clause-moved : goal.returns-in-None-clause-moved
returns-in-None-clause-moved c =
    moved-is c.args.self.now c.self.inside.root c.move_child.new.self c.args.old.now c.args.new.now
    c.self.view_is c.self.invariant.0 c.requires.taken c.requires.apart c.requires.alone c.in_ok-gone.ensures.ok
