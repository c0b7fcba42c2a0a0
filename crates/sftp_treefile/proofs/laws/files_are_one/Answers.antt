-- A tree file's head and entries give what it says.
use Rattle.sftp_treefile.proofs.Texts.Files.{one_file}
use Rattle.sftp_treefile.proofs.laws.files_are_one.Goals as goal

pub returns : goal.returns
returns c = one_file
