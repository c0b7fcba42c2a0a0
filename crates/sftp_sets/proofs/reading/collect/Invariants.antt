-- The reader has given the events so far, and what is kept stands for them.
use Rattle.std.proofs.Common.{ℕ, List}
use Rattle.sftp_transcript.specs.Recorded.{size_of}
use Rattle.sftp_audit.specs.Audit.{IsNew}
use Rattle.sftp_sets.proofs.Timing.{IsCollecting}
use Rattle.sftp_sets.proofs.reading.collect.Given as goal

abbrev pub invariant-events : goal.invariant-events
invariant-events g l = record {
  holds : (transcript : List ℕ) → IsNew transcript l.initial.records
      → IsCollecting l.times.start l.times.entries.items transcript l.collected l.records;
}

abbrev pub decreases-events : goal.decreases-events
decreases-events g l = size_of l.records.ahead
