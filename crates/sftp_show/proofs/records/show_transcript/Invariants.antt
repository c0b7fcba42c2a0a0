use Rattle.std.proofs.Common.{ℕ}
use Rattle.sftp_transcript.specs.Recorded.{size_of}
use Rattle.sftp_show.proofs.records.show_transcript.Given as goal

abbrev pub decreases-records : goal.decreases-records
decreases-records g l = size_of l.records.ahead
