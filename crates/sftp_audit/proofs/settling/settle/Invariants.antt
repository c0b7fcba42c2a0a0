use Rattle.sftp_audit.proofs.Imports.{◌≡◌, ◌≤◌, length}
use Rattle.sftp_audit.proofs.auditing.Places.{IsDoneTo}
use Rattle.sftp_audit.proofs.settling.settle.Given as goal

abbrev pub invariant-settle : goal.invariant-settle
invariant-settle g l = record {
  done : IsDoneTo g.J.Judges.allowed l.initial.judge l.initial.ledger l.ledger l.judge;
  untold : l.follows ≡ l.initial.follows;
  never_grows : length l.ledger ≤ length l.initial.ledger;
}

abbrev pub decreases-settle : goal.decreases-settle
decreases-settle g l = length l.ledger
