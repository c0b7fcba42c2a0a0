use Rattle.sftp_audit.proofs.worked.{usual, highest, too_high, too_low}
use Rattle.sftp_audit.proofs.worked.{limits_recorded}
use Rattle.sftp_audit.proofs.examples.limits_are_told.Goals as goal

pub returns : goal.returns
returns c =
    record { usual = usual; highest = highest; too_high = too_high; too_low = too_low; recorded = limits_recorded }
