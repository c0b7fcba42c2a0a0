use Rattle.sftp_transcript.specs.Recorded.{size_of}
use Rattle.sftp_auditing.proofs.going_on.feed_rest.Given as goal

abbrev pub decreases-events : goal.decreases-events
decreases-events g l = size_of l.records.ahead
