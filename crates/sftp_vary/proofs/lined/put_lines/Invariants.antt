-- The names so far have their lines, and the others are as they were.
use Rattle.std.proofs.Common.{◌≡◌, map, take, drop}
use Rattle.std.specs.List.{AllByRecursion}
use Rattle.sftp_packets.specs.Spelling.{FitsNameItem}
use Rattle.sftp_bare.specs.Bare.{bare_item}
use Rattle.sftp_vary.specs.Lines.{IsLined}
use Rattle.sftp_vary.proofs.lined.put_lines.Given as goal

abbrev pub invariant-loop-item : goal.invariant-loop-item
invariant-loop-item l = record {
  same : map bare_item (take l.item-index l.item-items) ≡ map bare_item (take l.item-index l.initial.item-items);
  lined : AllByRecursion FitsNameItem l.initial.item-items → AllByRecursion IsLined (take l.item-index l.item-items);
  rest : drop l.item-index l.item-items ≡ drop l.item-index l.initial.item-items;
}
