use Rattle.sftp_tree.proofs.Imports.{length}
use Rattle.sftp_tree.proofs.entries.directories.Dir.+replace.Given as goal

abbrev pub decreases-replace : goal.decreases-replace
decreases-replace l = length l.parent.now
