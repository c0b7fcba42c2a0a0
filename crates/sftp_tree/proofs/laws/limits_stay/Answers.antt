use Rattle.sftp_tree.proofs.Requests.Rows.{limits-stay}
use Rattle.sftp_tree.proofs.laws.limits_stay.Goals as goal

pub returns : goal.returns
returns c = record { outcome = limits-stay; after = limits-stay }
