use Rattle.sftp_treefile.proofs.Imports.{[], ◌∷◌, drop, refl, arith, hex, components, parts, Front, usual_limits}
use Rattle.sftp_treefile.proofs.Imports.{AreRaised, are_own, are_far, spelled_after, spelled, limits_text, Reads, IsFront, front_bytes}
use Rattle.sftp_treefile.specs.declared.limits.Opening.TheVariants.{Raised}
use Rattle.sftp_treefile.specs.Examples.{usual_bytes}
use Rattle.sftp_treefile.proofs.Texts.Heads.{limits_none, usual_none}
use Rattle.sftp_treefile.proofs.Texts.{usual_are, usual_not_own}
use Rattle.sftp_treefile.proofs.Texts.Files.{no_file_head}
use Rattle.sftp_treefile.proofs.examples.raised_file.Goals as goal

pub returns-clause-length : goal.returns-clause-length
unfolding hex
returns-clause-length c = refl

pub returns-clause-spelled : goal.returns-clause-spelled
unfolding spelled spelled_after hex are_own are_far
returns-clause-spelled c = refl

pub returns-clause-may_be : goal.returns-clause-may_be
unfolding components parts
returns-clause-may_be c = grind arith

front : Front
front = record { opening = Raised; home = 47 ∷ []; uid = 0; gid = 0 }

front-read : Reads IsFront front_bytes usual_bytes front (drop 21 usual_bytes)
unfolding components parts hex front
front-read =
    (record { home = record { names = refl; depth = omega arith; one = refl }; uid = omega arith; gid = omega arith }, refl)

limits-read : Reads AreRaised (limits_text Raised) (drop 21 usual_bytes) usual_limits (drop 37 usual_bytes)
unfolding hex
limits-read = (usual_are, refl)

pub returns-clause-not_usual : goal.returns-clause-not_usual
unfolding front
returns-clause-not_usual c = no_file_head usual_bytes
    (limits_none usual_bytes (drop 21 usual_bytes) front front-read
    (usual_none (drop 21 usual_bytes) (drop 37 usual_bytes) usual_limits limits-read usual_not_own))
