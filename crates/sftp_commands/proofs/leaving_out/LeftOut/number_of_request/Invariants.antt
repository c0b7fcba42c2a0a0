use Rattle.sftp_transcript.specs.Recorded.{size_of}
use Rattle.sftp_commands.proofs.leaving_out.LeftOut.number_of_request.Given as goal

abbrev pub decreases-events : goal.decreases-events
decreases-events g l = size_of l.records.ahead
