use Rattle.std.proofs.Common.{sym, ◌∙◌}
use Rattle.sftp_profile.specs.DirectoryHandles.{may_be_given}
use Rattle.sftp_profile.proofs.DirectoryLists.{all-next, all-not, all-end}
use Rattle.sftp_profile.proofs.listed.may_all_be_given.Goals as goal

pub returns-then-not-branch : goal.returns-then-not-branch
returns-then-not-branch c =
    sym
    (all-not (may_be_given c.args.profile c.args.tree.now c.args.directory.now c.args.left.now) c.args.items.now
    c.loop-item.item-index c.item-item.result c.loop-item-test.true c.item-item.is
    (sym c.in_ok-may_be_given.ensures ∙ c.if-not-branch.true))
    ∙ c.loop-item.invariant

pub loop-item-preserved : goal.loop-item-preserved
loop-item-preserved c =
    all-next (may_be_given c.args.profile c.args.tree.now c.args.directory.now c.args.left.now) c.args.items.now
    c.loop-item.item-index c.item-item.result c.loop-item-test.true c.item-item.is
    (sym c.in_ok-may_be_given.ensures ∙ c.if-not-branch.false)
    ∙ c.loop-item.invariant

pub returns : goal.returns
returns c =
    sym
    (all-end (may_be_given c.args.profile c.args.tree.now c.args.directory.now c.args.left.now) c.args.items.now
    c.loop-item.item-index c.loop-item-test.false)
    ∙ c.loop-item.invariant
