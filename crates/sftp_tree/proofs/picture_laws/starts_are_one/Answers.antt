use Rattle.sftp_tree.proofs.TreeFiles.Files.{one_start}
use Rattle.sftp_tree.proofs.picture_laws.starts_are_one.Goals as goal

pub returns : goal.returns
returns c = one_start
