use Rattle.std.proofs.Common.{◌∙◌}
use Rattle.sftp_profile.proofs.DirectoryLists.{struck-next, struck-last}
use Rattle.sftp_profile.proofs.directories.Directory.strike_items.Goals as goal

pub loop-item-preserved : goal.loop-item-preserved
loop-item-preserved c =
    struck-next c.loop-item.self c.strike_item.new.self c.args.items.now c.loop-item.item-index c.item-item.result
    c.loop-item-test.true c.item-item.is c.in_ok-strike_item.ensures
    ∙ c.loop-item.invariant

pub returns : goal.returns
returns c =
    struck-last c.loop-item.self c.args.items.now c.loop-item.item-index c.loop-item-test.false ∙ c.loop-item.invariant
