-- The frames of all bytes that are no longer in `rest` were written, and no call failed.
use Rattle.sftp_frames.proofs.FrameTexts.{IsWrittenBefore}
use Rattle.std.proofs.Common.{length}
use Rattle.sftp_frames.proofs.writing.put_stream.Given as goal

abbrev pub invariant-rest : goal.invariant-rest
invariant-rest g l =
    IsWrittenBefore l.client (g.W.Sink.written l.initial.sink) (g.W.Sink.written l.sink) (g.W.Sink.failures l.initial.sink) (g.W.Sink.failures l.sink) l.bytes l.rest

abbrev pub decreases-rest : goal.decreases-rest
decreases-rest g l = length l.rest
