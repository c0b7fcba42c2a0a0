use Rattle.sftp_audit.proofs.worked.{backwards, backwards_picture}
use Rattle.sftp_audit.proofs.worked.{backwards_recorded}
use Rattle.sftp_audit.proofs.examples.out_of_order_run.Goals as goal

pub returns : goal.returns
returns c = record { explained = backwards; pictured = backwards_picture; recorded = backwards_recorded }
