use Rattle.sftp_path.proofs.Imports.{◌≡◌, take}
use Rattle.sftp_path.proofs.places.Place.try_clone.Given as goal

-- the names so far
abbrev pub invariant-loop-name : goal.invariant-loop-name
invariant-loop-name l = l.place ≡ take l.name-index l.self
