use Rattle.sftp_tree.proofs.Imports.{refl, hex}
use Rattle.sftp_tree.proofs.TreeFiles.Growing.{two_names_start}
use Rattle.sftp_tree.proofs.picture_laws.file_of_two_names.Goals as goal

pub returns-clause-length : goal.returns-clause-length
unfolding hex
returns-clause-length c = refl

pub returns-clause-start : goal.returns-clause-start
returns-clause-start c = two_names_start
