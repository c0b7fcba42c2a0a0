use Rattle.sftp_audit.proofs.auditing.Places.{indexed-new}
use Rattle.sftp_audit.proofs.ledger.Ledger.clear.Goals as goal

pub invariant_of-self : goal.invariant_of-self
invariant_of-self c = rw (c.forget_all.ensures.exchanges, c.forget_all.ensures.index) (indexed-new c.self.inside.first)
