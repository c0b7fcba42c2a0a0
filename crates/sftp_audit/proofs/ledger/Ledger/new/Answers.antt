use Rattle.sftp_audit.proofs.auditing.Places.{indexed-new}
use Rattle.sftp_audit.proofs.ledger.Ledger.new.Goals as goal

pub invariant_of-result : goal.invariant_of-result
invariant_of-result c = rw (c.new.ensures.items, c.new-2.ensures.empty) (indexed-new 0)
