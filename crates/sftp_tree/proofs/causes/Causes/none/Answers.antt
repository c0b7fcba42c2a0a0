use Rattle.sftp_tree.proofs.CauseLaws.{none-set}
use Rattle.sftp_tree.proofs.causes.Causes.none.Goals as goal

pub returns : goal.returns
returns c = none-set
