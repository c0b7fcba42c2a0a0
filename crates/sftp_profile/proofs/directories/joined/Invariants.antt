-- The names so far stand below the place.
use Rattle.std.proofs.Common.{◌≡◌, ◌++◌, take}
use Rattle.sftp_profile.proofs.directories.joined.Given as goal

abbrev pub invariant-loop-name : goal.invariant-loop-name
invariant-loop-name l = l.place ≡ l.top ++ take l.name-index l.rest
