-- The names so far.
use Rattle.std.proofs.Common.{◌≡◌, take}
use Rattle.sftp_profile.proofs.notes.place_of.Given as goal

abbrev pub invariant-loop-name : goal.invariant-loop-name
invariant-loop-name l = l.place ≡ take l.name-index l.names
