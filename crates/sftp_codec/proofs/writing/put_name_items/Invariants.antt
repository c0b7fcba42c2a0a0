use Rattle.std.proofs.Common.{◌≡◌, ◌++◌, take}
use Rattle.std.specs.List.{flat_map}
use Rattle.sftp_packets.specs.Spelling.{name_item}
use Rattle.sftp_codec.proofs.writing.put_name_items.Given as goal

abbrev pub invariant-loop-item : goal.invariant-loop-item
invariant-loop-item l = l.out.items ≡ l.initial.out.items ++ flat_map name_item (take l.item-index l.item-items)
