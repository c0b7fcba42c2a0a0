use Rattle.sftp_tree.proofs.Limits.{entries-again, depths-again, links-again}
use Rattle.sftp_tree.proofs.limit_laws.limits_with_another_entry.Goals as goal

pub returns : goal.returns
returns c = record { entries = entries-again; depths = depths-again; links = links-again }
