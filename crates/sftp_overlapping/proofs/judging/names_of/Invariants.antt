-- The names so far.
use Rattle.std.proofs.Common.{◌≡◌, List, take, map}
use Rattle.sftp_overlapping.proofs.Files.{text, name_in}
use Rattle.sftp_overlapping.proofs.judging.names_of.Given as goal

abbrev pub invariant-members : goal.invariant-members
invariant-members g l = map text l.names.items ≡ map name_in (take l.member-index l.members)
