use Rattle.sftp_tree.proofs.Imports.{length}
use Rattle.sftp_tree.proofs.entries.directories.Dir.+put.Given as goal

abbrev pub decreases-put : goal.decreases-put
decreases-put l = length l.parent.now
