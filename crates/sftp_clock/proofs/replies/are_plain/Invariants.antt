-- The names so far have room for times.
use Rattle.std.proofs.Common.{◌≡◌, true, take}
use Rattle.std.specs.List.{list_all}
use Rattle.sftp_clock.specs.Timed.{is_plain}
use Rattle.sftp_clock.proofs.replies.are_plain.Given as goal

abbrev pub invariant-loop-item : goal.invariant-loop-item
invariant-loop-item l = list_all is_plain (take l.item-index l.items) ≡ true
