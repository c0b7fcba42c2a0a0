use Rattle.sftp_tree.proofs.Limits.{entries-with, depths-with, links-with}
use Rattle.sftp_tree.proofs.limit_laws.limits_with_an_entry.Goals as goal

pub returns : goal.returns
returns c = record { entries = entries-with; depths = depths-with; links = links-with }
