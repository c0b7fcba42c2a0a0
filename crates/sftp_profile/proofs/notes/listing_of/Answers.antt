use Rattle.std.proofs.Common.{◌∙◌}
use Rattle.sftp_profile.proofs.DirectoryLists.{put-next, put-last}
use Rattle.sftp_profile.proofs.notes.listing_of.Goals as goal

pub loop-item-preserved : goal.loop-item-preserved
loop-item-preserved c =
    put-next c.loop-item.listing c.put_item.new.listing c.args.items.now c.loop-item.item-index c.item-item.result
    c.loop-item-test.true c.item-item.is c.in_ok-put_item.ensures
    ∙ c.loop-item.invariant

pub returns : goal.returns
returns c =
    put-last c.loop-item.listing c.args.items.now c.loop-item.item-index c.loop-item-test.false ∙ c.loop-item.invariant
