use Rattle.sftp_tree.proofs.OpenFiles.{kept-write, kept-set}
use Rattle.sftp_tree.proofs.OpenFiles.{kept-pin, kept-unpin}
use Rattle.sftp_tree.proofs.file_laws.open_files_keep.Goals as goal

pub returns : goal.returns
returns c = record { write = kept-write; set = kept-set; pin = kept-pin; unpin = kept-unpin }
