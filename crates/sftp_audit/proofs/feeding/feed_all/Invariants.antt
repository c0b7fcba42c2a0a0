-- The reader has given the events so far, and the auditor stands for them.
use Rattle.sftp_audit.proofs.Imports.{◌≡◌, None}
use Rattle.sftp_transcript.specs.Recorded.{size_of}
use Rattle.sftp_audit.proofs.streams.{KeepsFeeding}
use Rattle.sftp_audit.proofs.feeding.feed_all.Given as goal

abbrev pub invariant-events : goal.invariant-events
invariant-events g l = record {
  feeding : KeepsFeeding g.J.Judges.allowed l.initial.auditor l.initial.records l.requests l.auditor l.records;
  faultless : l.initial.records.fault ≡ None → l.records.fault ≡ None;
  sound : l.initial.records.fault ≡ None → l.records.ahead.failures ≡ l.initial.records.ahead.failures;
}

abbrev pub decreases-events : goal.decreases-events
decreases-events g l = size_of l.records.ahead
