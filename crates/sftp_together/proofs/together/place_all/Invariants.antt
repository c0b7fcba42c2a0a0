-- The requests so far have their places.
use Rattle.std.proofs.Common.{◌≡◌, List, take}
use Rattle.sftp_together.specs.Sets.{Placed}
use Rattle.sftp_together.specs.Checks.{IsPlaced, latest_asked}
use Rattle.sftp_together.proofs.together.place_all.Given as goal

abbrev pub invariant-places : goal.invariant-places
invariant-places g l = record {
  placed : List Placed;
  right : IsPlaced g.J.Judges.allowed l.initial.placing.state l.initial.placing.tolerance (g.S.Sessions.ahead l.initial.sessions)
      (take l.place l.order) placed (g.S.Sessions.ahead l.sessions) l.placing.state;
  latest : l.placing.latest ≡ latest_asked placed;
  alone : l.placing.alone ≡ l.initial.placing.alone;
  tolerance : l.placing.tolerance ≡ l.initial.placing.tolerance;
}
