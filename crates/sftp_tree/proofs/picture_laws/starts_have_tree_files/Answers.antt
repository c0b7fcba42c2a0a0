use Rattle.sftp_tree.proofs.Imports.{refl, picture}
use Rattle.sftp_tree.proofs.TreeFiles.Files.{start_of_spelled, spelled_of_start, plain_of_start, file_of_tree}
use Rattle.sftp_tree.proofs.TreeFiles.Files.{timed_file_of_tree}
use Rattle.sftp_tree.proofs.picture_laws.starts_have_tree_files.Goals as goal

pub returns-clause-start : goal.returns-clause-start
returns-clause-start c = start_of_spelled

pub returns-clause-file : goal.returns-clause-file
returns-clause-file c = spelled_of_start

pub returns-clause-plain : goal.returns-clause-plain
returns-clause-plain c = plain_of_start

pub returns-clause-narrow : goal.returns-clause-narrow
unfolding picture
returns-clause-narrow c = λ t bytes is well within.
    record { may_be = file_of_tree t (record { well_formed = well; within_limits = within }); bytes_are = is }

pub returns-clause-timed : goal.returns-clause-timed
returns-clause-timed c = λ t times well within are. record {
  may_be = timed_file_of_tree t (record { well_formed = well; within_limits = within }) times are;
  bytes_are = refl;
}
