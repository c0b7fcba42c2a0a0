use Rattle.sftp_tree.proofs.Limits.{entries-without, depths-without, links-without}
use Rattle.sftp_tree.proofs.limit_laws.limits_without_an_entry.Goals as goal

pub returns : goal.returns
returns c = record { entries = entries-without; depths = depths-without; links = links-without }
