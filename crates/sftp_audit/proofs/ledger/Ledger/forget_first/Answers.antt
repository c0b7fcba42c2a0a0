use Rattle.sftp_audit.proofs.auditing.Places.{indexed-popped}
use Rattle.sftp_audit.proofs.ledger.Ledger.forget_first.Goals as goal

pub invariant_of-self : goal.invariant_of-self
invariant_of-self c =
    let old = c.self.inside in
    rw c.pop_front.ensures.rest
    (indexed-popped old.exchanges.items old.unanswered.entries old.first c.self.invariant
    (rw c.self.view_is c.requires))
