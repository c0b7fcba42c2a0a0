-- The session runs on since the first step, and no stream failed.
use Rattle.sftp_server.proofs.Imports.{◌≡◌, None, StreamBytes, stream_bytes, IsLogging, IsRunning}
use Rattle.sftp_server.specs.Ending.{bytes_ahead}
use Rattle.sftp_server.proofs.scripted.follow_script.Given as goal
use Rattle.sftp_server.specs.Served.{Setup}

abbrev pub invariant-script : goal.invariant-script
invariant-script g l = record {
  running : (start : Setup) (past : StreamBytes)
      → IsRunning start past
      (stream_bytes (g.R.Source.left l.initial.reader) (g.W.Sink.written l.initial.writer) l.initial.log.bytes)
      l.initial.input l.initial.core None
      → IsRunning start past (stream_bytes (g.R.Source.left l.reader) (g.W.Sink.written l.writer) l.log.bytes) l.input
      l.core None;
  logging : IsLogging l.log;
  reader_sound : g.R.Source.failures l.reader ≡ g.R.Source.failures l.initial.reader;
  writer_sound : g.W.Sink.failures l.writer ≡ g.W.Sink.failures l.initial.writer;
  log_sound : l.log.failures ≡ l.initial.log.failures;
}

abbrev pub decreases-script : goal.decreases-script
decreases-script g l = bytes_ahead (g.R.Source.reads_left l.reader) l.input
