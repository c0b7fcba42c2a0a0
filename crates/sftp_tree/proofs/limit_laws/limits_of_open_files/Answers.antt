use Rattle.sftp_tree.proofs.Imports.{refl, content_at}
use Rattle.sftp_tree.proofs.CauseLaws.{changed-room}
use Rattle.sftp_tree.proofs.OpenFiles.{write-room}
use Rattle.sftp_tree.proofs.limit_laws.limits_of_open_files.Goals as goal

pub returns : goal.returns
returns c = record {
  write = λ t number offset new kept there.
      write-room t number offset new kept.within_limits kept.well_formed.numbered there;
  set = λ t number attrs kept there. changed-room t attrs number kept (content_at t.files number) refl there;
}
