use Rattle.sftp_audit.proofs.worked.{nothing_asked}
use Rattle.sftp_audit.proofs.worked.{handshake_recorded}
use Rattle.sftp_audit.proofs.examples.nothing_asked.Goals as goal

pub returns : goal.returns
returns c = record { explained = nothing_asked; recorded = handshake_recorded }
