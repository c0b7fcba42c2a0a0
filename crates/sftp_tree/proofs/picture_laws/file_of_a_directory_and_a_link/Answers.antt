use Rattle.sftp_tree.proofs.TreeFiles.Growing.{linked_kept}
use Rattle.sftp_tree.proofs.picture_laws.file_of_a_directory_and_a_link.Goals as goal

pub returns-clause-kept : goal.returns-clause-kept
returns-clause-kept c = linked_kept
