use Rattle.sftp_tree.proofs.Limits.{entries-moved, depths_fit-moved, links-moved}
use Rattle.sftp_tree.proofs.limit_laws.limits_after_a_move.Goals as goal

pub returns : goal.returns
returns c = record { entries = entries-moved; depths = depths_fit-moved; links = links-moved }
