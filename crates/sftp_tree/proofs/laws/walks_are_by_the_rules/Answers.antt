use Rattle.sftp_tree.proofs.Walks.Counts.{by_the_rules}
use Rattle.sftp_tree.proofs.laws.walks_are_by_the_rules.Goals as goal

pub returns : goal.returns
returns c = by_the_rules
