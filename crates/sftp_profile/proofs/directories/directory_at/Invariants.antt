-- None of those so far is under the handle.
use Rattle.std.proofs.Common.{◌≡◌, drop}
use Rattle.sftp_profile.specs.Profiles.{directory_at}
use Rattle.sftp_profile.proofs.directories.directory_at.Given as goal

abbrev pub invariant-loop-directory : goal.invariant-loop-directory
invariant-loop-directory l =
    directory_at (drop l.directory-index l.directories) l.handle ≡ directory_at l.directories l.handle
