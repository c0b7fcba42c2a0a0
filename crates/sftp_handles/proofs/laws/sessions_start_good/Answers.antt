use Rattle.sftp_handles.proofs.Good.GoodPaths.{good-start, same-start}
use Rattle.sftp_handles.proofs.laws.sessions_start_good.Goals as goal

pub returns : goal.returns
returns c = record { good = good-start; same = same-start }
