use Rattle.sftp_tree.proofs.Imports.{◌+◌, ◌-◌, times_pinned}
use Rattle.sftp_tree.proofs.FileCounts.{times_pinned-here, times_pinned-elsewhere}
use Rattle.sftp_tree.proofs.file_laws.pins_are_counted.Goals as goal

pub returns : goal.returns
returns c = record {
  pinned = λ pins number. times_pinned-here pins number (times_pinned pins number + 1);
  pinned_elsewhere = λ pins number. times_pinned-elsewhere pins number (times_pinned pins number + 1);
  unpinned = λ pins number. times_pinned-here pins number (times_pinned pins number - 1);
  unpinned_elsewhere = λ pins number. times_pinned-elsewhere pins number (times_pinned pins number - 1);
}
