-- The session is open, each request is answered, and no stream failed.
use Rattle.sftp_server.proofs.Imports.{◌≡◌, [], None, length, StreamBytes, stream_bytes, IsLogging, IsRunning}
use Rattle.sftp_server.proofs.Sessions.Closed.{bytes_left}
use Rattle.sftp_server.proofs.serving.serve_requests.Given as goal
use Rattle.sftp_server.specs.Served.{Setup}

abbrev pub invariant-batch : goal.invariant-batch
invariant-batch g l = record {
  running : (start : Setup) (past : StreamBytes)
      → IsRunning start past
      (stream_bytes (g.R.Source.left l.initial.reader) (g.W.Sink.written l.initial.writer) l.initial.log.bytes)
      l.initial.input l.initial.core None
      → IsRunning start past (stream_bytes (g.R.Source.left l.reader) (g.W.Sink.written l.writer) l.log.bytes) l.input
      l.core None;
  logging : IsLogging l.log;
  answered : l.core.queue ≡ [];
  reader_sound : g.R.Source.failures l.reader ≡ g.R.Source.failures l.initial.reader;
  writer_sound : g.W.Sink.failures l.writer ≡ g.W.Sink.failures l.initial.writer;
  log_sound : l.log.failures ≡ l.initial.log.failures;
}

abbrev pub decreases-batch : goal.decreases-batch
decreases-batch g l = bytes_left (g.R.Source.reads_left l.reader) (length l.input.held)
