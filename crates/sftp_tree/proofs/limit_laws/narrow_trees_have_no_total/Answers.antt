use Rattle.sftp_tree.proofs.OpenFiles.{narrow-write, narrow-size, narrow-told}
use Rattle.sftp_tree.proofs.limit_laws.narrow_trees_have_no_total.Goals as goal

pub returns : goal.returns
returns c = record { write = narrow-write; set = narrow-size; told = narrow-told }
