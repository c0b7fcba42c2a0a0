-- The bytes that are no longer in `rest` were appended, and no call failed.
use Rattle.sftp_streams.proofs.Imports.{length}
use Rattle.sftp_streams.proofs.Buffers.{IsPutBefore}
use Rattle.sftp_streams.proofs.writing.put_all.Given as goal

abbrev pub invariant-rest : goal.invariant-rest
invariant-rest g l =
    IsPutBefore (g.L.Sink.written l.initial.sink) (g.L.Sink.written l.sink) (g.L.Sink.failures l.initial.sink) (g.L.Sink.failures l.sink) l.bytes l.rest

abbrev pub decreases-rest : goal.decreases-rest
decreases-rest g l = length l.rest
