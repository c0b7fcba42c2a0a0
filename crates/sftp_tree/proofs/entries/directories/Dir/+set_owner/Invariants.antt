use Rattle.sftp_tree.proofs.Imports.{length}
use Rattle.sftp_tree.proofs.entries.directories.Dir.+set_owner.Given as goal

abbrev pub decreases-set_owner : goal.decreases-set_owner
decreases-set_owner l = length l.names.now
