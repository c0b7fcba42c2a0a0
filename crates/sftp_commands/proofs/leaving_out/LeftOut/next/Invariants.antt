-- No bytes come back.
use Rattle.std.proofs.Common.{◌≤◌}
use Rattle.sftp_transcript.specs.Recorded.{size_of}
use Rattle.sftp_commands.proofs.leaving_out.LeftOut.next.Given as goal

abbrev pub invariant-events : goal.invariant-events
invariant-events g l = size_of l.records.ahead ≤ size_of l.initial.records.ahead

abbrev pub decreases-events : goal.decreases-events
decreases-events g l = size_of l.records.ahead
