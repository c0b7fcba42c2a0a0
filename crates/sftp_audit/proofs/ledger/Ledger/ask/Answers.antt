use Rattle.sftp_audit.proofs.auditing.Places.{indexed-new}
use Rattle.sftp_audit.proofs.ledger.Ledger.ask.Goals as goal

pub invariant_of-self-in-Err : goal.invariant_of-self-in-Err
invariant_of-self-in-Err c =
    rw (c.forget_all.ensures.exchanges, c.forget_all.ensures.index) (indexed-new c.self.inside.first)
