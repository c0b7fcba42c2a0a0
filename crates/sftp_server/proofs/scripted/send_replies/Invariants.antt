-- The session runs on since the first step, and no call failed.
use Rattle.sftp_server.proofs.Imports.{◌≡◌, Ok, owed, IsLogging, SendsOn}
use Rattle.sftp_server.proofs.scripted.send_replies.Given as goal

abbrev pub invariant-steps : goal.invariant-steps
invariant-steps g l = record {
  running : SendsOn l.initial.core l.core (g.W.Sink.written l.initial.writer) (g.W.Sink.written l.writer)
      l.initial.log.bytes l.log.bytes (Ok tt);
  logging : IsLogging l.log;
  same_writer : g.W.Sink.failures l.writer ≡ g.W.Sink.failures l.initial.writer;
  same_log : l.log.failures ≡ l.initial.log.failures;
}

abbrev pub decreases-steps : goal.decreases-steps
decreases-steps g l = owed l.core.queue
