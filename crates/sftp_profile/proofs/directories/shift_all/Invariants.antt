-- Those so far are changed, and the others stand as they were.
use Rattle.std.proofs.Common.{◌≡◌, map, take, drop}
use Rattle.sftp_profile.specs.Profiles.{shifted}
use Rattle.sftp_profile.proofs.directories.shift_all.Given as goal

abbrev pub invariant-loop-directory : goal.invariant-loop-directory
invariant-loop-directory l = record {
  taken : take l.directory-index l.directory-items
      ≡ map (shifted l.shift) (take l.directory-index l.initial.directory-items);
  rest : drop l.directory-index l.directory-items ≡ drop l.directory-index l.initial.directory-items;
}
