-- The names so far are short.
use Rattle.std.proofs.Common.{◌≡◌, true, take}
use Rattle.std.specs.List.{list_all}
use Rattle.sftp_vary.specs.Lines.{is_short}
use Rattle.sftp_vary.proofs.lined.are_short.Given as goal

abbrev pub invariant-loop-item : goal.invariant-loop-item
invariant-loop-item l = list_all is_short (take l.item-index l.items) ≡ true
