use Rattle.std.proofs.Common.{◌-◌, ◌≡◌, ◌≤◌, ◌++◌}
use Rattle.sftp_contents.specs.Bytes.{tabulate}
use Rattle.sftp_contents.specs.Pieces.{byte_at}
use Rattle.sftp_contents.proofs.reading.read.Given as goal

abbrev pub invariant-reading : goal.invariant-reading
invariant-reading l = record {
  bytes : l.into.items ≡ l.initial.into.items ++ tabulate (byte_at l.store) l.offset l.done;
  few : l.done ≤ l.count;
}

abbrev pub decreases-reading : goal.decreases-reading
decreases-reading l = l.count - l.done
