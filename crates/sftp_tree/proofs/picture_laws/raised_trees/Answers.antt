-- A tree with higher limits, and an example.
use Rattle.sftp_tree.proofs.KeptTrees.Counts.{raised-kept, raised-start}
use Rattle.sftp_tree.proofs.TreeFiles.Growing.{raised_length, raised_picture, raised_blank}
use Rattle.sftp_treefile.proofs.Texts.Raised.{raised_highest}
use Rattle.sftp_tree.proofs.picture_laws.raised_trees.Goals as goal

pub returns-clause-kept : goal.returns-clause-kept
returns-clause-kept c = raised-kept

pub returns-clause-limits : goal.returns-clause-limits
returns-clause-limits c = λ t are. raised_highest t.limits are

pub returns-clause-start : goal.returns-clause-start
returns-clause-start c = raised-start

pub returns-clause-length : goal.returns-clause-length
returns-clause-length c = raised_length

pub returns-clause-bytes : goal.returns-clause-bytes
returns-clause-bytes c = raised_picture

pub returns-clause-blank : goal.returns-clause-blank
returns-clause-blank c = raised_blank
