use Rattle.sftp_text.proofs.TreeLines.{transcript-back}
use Rattle.sftp_text.proofs.laws.transcripts_are_read.Goals as goal

pub returns : goal.returns
returns c = transcript-back
