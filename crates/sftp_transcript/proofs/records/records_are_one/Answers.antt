use Rattle.sftp_transcript.proofs.transcripts.{records_are_one_lem}
use Rattle.sftp_transcript.proofs.records.records_are_one.Goals as goal

pub returns : goal.returns
returns c = records_are_one_lem
