use Rattle.sftp_tree.proofs.CauseLaws.{joined-set}
use Rattle.sftp_tree.proofs.causes.Causes.union.Goals as goal

pub returns : goal.returns
returns c = joined-set c.args.self c.args.other
