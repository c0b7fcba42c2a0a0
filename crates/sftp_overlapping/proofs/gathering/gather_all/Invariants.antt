-- The sessions so far are gathered.
use Rattle.std.proofs.Common.{List, take}
use Rattle.sftp_gathering.specs.Files.{SessionFiles}
use Rattle.sftp_gathering.specs.Gathered.{IsGathered}
use Rattle.sftp_overlapping.specs.Sets.{AreMembers}
use Rattle.sftp_overlapping.proofs.gathering.gather_all.Given as goal

abbrev pub invariant-members : goal.invariant-members
invariant-members g l =
    (each : List SessionFiles) → AreMembers g.T.Opens.bytes (take l.session l.members) each → IsGathered each l.set
