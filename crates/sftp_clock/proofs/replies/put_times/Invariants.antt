-- The names so far have their times, and the others are as they were.
use Rattle.std.proofs.Common.{◌≡◌, map, take, drop}
use Rattle.std.specs.List.{AllByRecursion}
use Rattle.sftp_packets.specs.Spelling.{FitsNameItem}
use Rattle.sftp_clock.specs.Timed.{untimed, IsTimed}
use Rattle.sftp_clock.proofs.replies.put_times.Given as goal

abbrev pub invariant-loop-item : goal.invariant-loop-item
invariant-loop-item l = record {
  same : map untimed (take l.item-index l.item-items) ≡ map untimed (take l.item-index l.initial.item-items);
  timed : AllByRecursion FitsNameItem l.initial.item-items → AllByRecursion IsTimed (take l.item-index l.item-items);
  rest : drop l.item-index l.item-items ≡ drop l.item-index l.initial.item-items;
}
