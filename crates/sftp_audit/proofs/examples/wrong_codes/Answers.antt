use Rattle.sftp_audit.proofs.worked.{removed, in_order_of_arrival}
use Rattle.sftp_audit.proofs.examples.wrong_codes.Goals as goal

pub returns : goal.returns
returns c = record { removed = removed; in_order_of_arrival = in_order_of_arrival }
