use Rattle.sftp_tree.proofs.TreeFiles.Growing.{blank_start}
use Rattle.sftp_audit.proofs.blank.blank_tree_is_a_start.Goals as goal

pub returns : goal.returns
returns c = blank_start
