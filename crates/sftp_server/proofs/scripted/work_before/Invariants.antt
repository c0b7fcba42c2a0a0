-- The requests done so far leave no more to do.
use Rattle.sftp_server.proofs.Imports.{◌≤◌, Ok, owed}
use Rattle.sftp_server.specs.Ending.{Works}
use Rattle.sftp_server.proofs.scripted.work_before.Given as goal

abbrev pub invariant-each : goal.invariant-each
invariant-each g l = record {
  works : Works l.initial.core l.core (Ok tt);
  never_rises : owed l.core.queue ≤ owed l.initial.core.queue;
}
