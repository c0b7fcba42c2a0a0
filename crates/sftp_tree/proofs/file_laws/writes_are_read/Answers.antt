use Rattle.sftp_tree.proofs.Imports.{refl}
use Rattle.sftp_tree.proofs.OpenFiles.{before-written, there-written, behind-written}
use Rattle.sftp_tree.proofs.file_laws.writes_are_read.Goals as goal

pub returns : goal.returns
returns c = record {
  before = before-written;
  there = there-written;
  behind = behind-written;
  nothing = λ offset bytes. refl;
}
