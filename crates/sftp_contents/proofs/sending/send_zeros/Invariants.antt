-- The zeros so far are written, and no call failed.
use Rattle.std.proofs.Common.{◌-◌, ◌≡◌, ◌≤◌, take, replicate}
use Rattle.std.specs.Io.KnownBytes.{Appends}
use Rattle.sftp_contents.proofs.sending.send_zeros.Given as goal

abbrev pub invariant-zeros : goal.invariant-zeros
invariant-zeros g l = record {
  done : Appends (g.L.Sink.written l.initial.sink) (g.L.Sink.written l.sink) (take l.done (replicate l.count 0));
  none_failed : g.L.Sink.failures l.sink ≡ g.L.Sink.failures l.initial.sink;
  few : l.done ≤ l.count;
}

abbrev pub decreases-zeros : goal.decreases-zeros
decreases-zeros g l = l.count - l.done
