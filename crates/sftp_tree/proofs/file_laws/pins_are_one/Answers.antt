use Rattle.sftp_tree.proofs.OpenFiles.{pinned-there, one-pins}
use Rattle.sftp_tree.proofs.file_laws.pins_are_one.Goals as goal

pub returns : goal.returns
returns c = record { exist = pinned-there; one = one-pins }
