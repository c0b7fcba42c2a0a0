use Rattle.sftp_tree.proofs.Requests.Rows.{gone-after, content-after, pins-stay}
use Rattle.sftp_tree.proofs.laws.files_live_while_held.Goals as goal

pub returns : goal.returns
returns c = record { gone = gone-after; left = content-after; pins = pins-stay }
