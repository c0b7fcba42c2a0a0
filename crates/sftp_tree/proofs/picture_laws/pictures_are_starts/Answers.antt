use Rattle.sftp_tree.proofs.TreeFiles.Files.{start_of_picture}
use Rattle.sftp_tree.proofs.picture_laws.pictures_are_starts.Goals as goal

pub returns : goal.returns
returns c = start_of_picture
