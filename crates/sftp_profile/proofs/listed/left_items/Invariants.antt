-- Those so far that were left.
use Rattle.std.proofs.Common.{◌≡◌, take}
use Rattle.std.specs.List.{flat_map}
use Rattle.sftp_profile.specs.DirectoryHandles.{left_item}
use Rattle.sftp_profile.proofs.listed.left_items.Given as goal

abbrev pub invariant-loop-item : goal.invariant-loop-item
invariant-loop-item l =
    l.given.items ≡ flat_map (λ item. left_item l.left item.filename) (take l.item-index l.items)
