use Rattle.std.proofs.Common.{◌-◌, ◌≡◌, ◌≤◌, take}
use Rattle.sftp_contents.specs.Bytes.{tabulate}
use Rattle.sftp_contents.specs.Pieces.{byte_at}
use Rattle.sftp_contents.proofs.reading.is_same.Given as goal

abbrev pub invariant-comparing : goal.invariant-comparing
invariant-comparing l = record {
  so : tabulate (byte_at l.store) l.offset l.done ≡ take l.done l.given;
  few : l.done ≤ l.count;
}

abbrev pub decreases-comparing : goal.decreases-comparing
decreases-comparing l = l.count - l.done
