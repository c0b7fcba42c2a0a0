use Rattle.sftp_transcript.proofs.pairing.{all_settled}
use Rattle.sftp_transcript.proofs.laws.each_request_runs.Goals as goal

pub returns : goal.returns
returns c = all_settled
