-- None of those so far is the name.
use Rattle.std.proofs.Common.{◌≡◌, drop}
use Rattle.sftp_handles.specs.Replies.{names_in, is_among}
use Rattle.sftp_profile.proofs.listed.is_among.Given as goal

abbrev pub invariant-loop-item : goal.invariant-loop-item
invariant-loop-item l = is_among l.name (names_in (drop l.item-index l.items)) ≡ is_among l.name (names_in l.items)
