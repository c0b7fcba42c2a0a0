-- The names so far are struck, and the others are still to be struck.
use Rattle.std.proofs.Common.{◌≡◌, drop}
use Rattle.sftp_handles.specs.Replies.{names_in}
use Rattle.sftp_profile.specs.Profiles.{struck_names}
use Rattle.sftp_profile.proofs.directories.Directory.strike_items.Given as goal

abbrev pub invariant-loop-item : goal.invariant-loop-item
invariant-loop-item l =
    struck_names l.self (names_in (drop l.item-index l.items)) ≡ struck_names l.initial.self (names_in l.items)
