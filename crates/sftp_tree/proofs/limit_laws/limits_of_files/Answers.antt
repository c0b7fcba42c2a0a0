use Rattle.sftp_tree.proofs.Limits.{files-with, files-again}
use Rattle.sftp_tree.proofs.limit_laws.limits_of_files.Goals as goal

pub returns : goal.returns
returns c = record { new = files-with; again = files-again }
