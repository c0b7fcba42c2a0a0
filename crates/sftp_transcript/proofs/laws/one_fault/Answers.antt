use Rattle.sftp_transcript.proofs.transcripts.{one_fault}
use Rattle.sftp_transcript.proofs.laws.one_fault.Goals as goal

pub returns : goal.returns
returns c = one_fault
