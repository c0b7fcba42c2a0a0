use Rattle.std.proofs.Common.{◌≡◌, [], length}
use Rattle.sftp_path.specs.Place.{components}
use Rattle.sftp_profile.specs.Realpaths.{lexed}
use Rattle.sftp_profile.proofs.realpaths.lexed.Given as goal

-- the components that are left lead on from the place so far
abbrev pub invariant-parts : goal.invariant-parts
invariant-parts l = lexed l.place l.parts.left ≡ lexed [] (components l.fn.path)

abbrev pub decreases-parts : goal.decreases-parts
decreases-parts l = length l.parts.left
