use Rattle.sftp_handles.proofs.TotalSteps.PathReplies.{spelled-askable}
use Rattle.sftp_handles.proofs.laws.encoded_requests_are_askable.Goals as goal

pub returns : goal.returns
returns c = spelled-askable
