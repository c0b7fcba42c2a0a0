use Rattle.std.proofs.Common.{◌≡◌, take}
use Rattle.std.specs.Prelude.{option_copied}
use Rattle.std.specs.List.{flat_map}
use Rattle.sftp_profile.specs.StrictAnswers.{mended_item}
use Rattle.sftp_profile.proofs.strict_answers.mended_items.Given as goal

-- the items so far, mended
abbrev pub invariant-loop-item : goal.invariant-loop-item
invariant-loop-item l =
    l.mended.items ≡ flat_map (mended_item l.profile (option_copied l.left)) (take l.item-index l.items)
