-- The names so far may be given.
use Rattle.std.proofs.Common.{◌≡◌, drop}
use Rattle.std.specs.List.{list_all}
use Rattle.sftp_profile.specs.DirectoryHandles.{may_be_given}
use Rattle.sftp_profile.proofs.listed.may_all_be_given.Given as goal

abbrev pub invariant-loop-item : goal.invariant-loop-item
invariant-loop-item l =
    list_all (may_be_given l.profile l.tree l.directory l.left) (drop l.item-index l.items)
    ≡ list_all (may_be_given l.profile l.tree l.directory l.left) l.items
