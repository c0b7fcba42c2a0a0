use Rattle.sftp_tree.proofs.Walks.Counts.{walk-count}
use Rattle.sftp_tree.proofs.laws.walks_end.Goals as goal

pub returns : goal.returns
returns c = walk-count
