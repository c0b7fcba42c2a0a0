use Rattle.std.proofs.Common.{sym, ◌∙◌}
use Rattle.sftp_profile.proofs.DirectoryLists.{among-next, among-here, among-none}
use Rattle.sftp_profile.proofs.listed.is_among.Goals as goal

pub returns-then-is_named : goal.returns-then-is_named
returns-then-is_named c =
    sym
    (among-here c.args.name.now c.args.items.now c.loop-item.item-index c.item-item.result c.loop-item-test.true
    c.item-item.is (sym c.is_named.ensures ∙ c.if-is_named.true))
    ∙ c.loop-item.invariant

pub loop-item-preserved : goal.loop-item-preserved
loop-item-preserved c =
    among-next c.args.name.now c.args.items.now c.loop-item.item-index c.item-item.result c.loop-item-test.true
    c.item-item.is (sym c.is_named.ensures ∙ c.if-is_named.false)
    ∙ c.loop-item.invariant

pub returns : goal.returns
returns c =
    sym (among-none c.args.name.now c.args.items.now c.loop-item.item-index c.loop-item-test.false)
    ∙ c.loop-item.invariant
