-- The bytes so far are written, and no call failed.
use Rattle.std.proofs.Common.{◌-◌, ◌≡◌, ◌≤◌, take}
use Rattle.std.specs.Io.KnownBytes.{Appends}
use Rattle.sftp_contents.proofs.sending.send.Given as goal

abbrev pub invariant-parts : goal.invariant-parts
invariant-parts g l = record {
  done : Appends (g.L.Sink.written l.initial.sink) (g.L.Sink.written l.sink) (take l.done l.content);
  none_failed : g.L.Sink.failures l.sink ≡ g.L.Sink.failures l.initial.sink;
  few : l.done ≤ l.len;
}

abbrev pub decreases-parts : goal.decreases-parts
decreases-parts g l = l.len - l.done
