-- The sessions so far have nothing left, and none has changed.
use Rattle.std.proofs.Common.{◌≡◌, ◌<◌, ℕ, []}
use Rattle.sftp_together.specs.Sets.{session_at}
use Rattle.sftp_together.proofs.together.find_left.Given as goal

abbrev pub invariant-sessions : goal.invariant-sessions
invariant-sessions g l = record {
  none : (number : ℕ) → number < l.session → session_at number (g.S.Sessions.ahead l.initial.sessions) ≡ [];
  same : g.S.Sessions.ahead l.sessions ≡ g.S.Sessions.ahead l.initial.sessions;
}
