-- The entries so far are put, and the others are still to be put.
use Rattle.std.proofs.Common.{◌≡◌, [], map, drop}
use Rattle.sftp_tree.specs.Items.{entry_of}
use Rattle.sftp_profile.specs.Notes.{all_put}
use Rattle.sftp_profile.proofs.notes.listing_of.Given as goal

abbrev pub invariant-loop-item : goal.invariant-loop-item
invariant-loop-item l =
    all_put l.listing (map entry_of (drop l.item-index l.items)) ≡ all_put [] (map entry_of l.items)
