use Rattle.std.proofs.Common.{rules}
use Rattle.sftp_packets.specs.Layouts.{Extends}
use Rattle.sftp_codec.proofs.Appended.{Extends-after}
use Rattle.sftp_codec.proofs.writing.put_name_items.Goals as goal

pub returns-in_err-put_name_item-clause-err : goal.returns-in_err-put_name_item-clause-err
returns-in_err-put_name_item-clause-err c =
    let all : Extends c.args.out.now.items c.put_name_item.new.out.items = Extends-after _ _ _ _ c.loop-item.invariant c.in_err-put_name_item.ensures.err in
    search rules
