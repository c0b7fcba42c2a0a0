use Rattle.sftp_tree.proofs.Imports.{length}
use Rattle.sftp_tree.proofs.entries.directories.Dir.+take.Given as goal

abbrev pub decreases-take : goal.decreases-take
decreases-take l = length l.parent.now
