use Rattle.sftp_tree.proofs.TreeFiles.Files.{blank_kept}
use Rattle.sftp_tree.proofs.TreeFiles.Growing.{blank_picture, blank_start}
use Rattle.sftp_tree.proofs.picture_laws.blank_is_a_start.Goals as goal

pub returns : goal.returns
returns c = record { kept = blank_kept; bytes = blank_picture; start = blank_start }
