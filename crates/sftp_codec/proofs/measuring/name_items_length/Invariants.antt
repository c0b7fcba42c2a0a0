use Rattle.std.proofs.Common.{◌≡◌, ◌-◌, ◌^◌, ◌<◌, length, min, take}
use Rattle.std.specs.List.{flat_map, AllByRecursion}
use Rattle.sftp_packets.specs.Spelling.{name_item, FitsNameItem}
use Rattle.sftp_codec.proofs.measuring.name_items_length.Given as goal

abbrev pub invariant-loop-item : goal.invariant-loop-item
invariant-loop-item l = record {
  exact : l.total ≡ min (length (flat_map name_item (take l.item-index l.item-items))) (2 ^ 64 - 1);
  fits : length (flat_map name_item (take l.item-index l.item-items)) < 2 ^ 32 → AllByRecursion FitsNameItem (take l.item-index l.item-items);
}
