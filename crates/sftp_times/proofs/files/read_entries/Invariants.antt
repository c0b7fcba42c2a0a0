use Rattle.std.proofs.Common.{◌≡◌, suc, length}
use Rattle.sftp_times.specs.Times.{entries_in, prepend}
use Rattle.sftp_times.proofs.files.read_entries.Given as goal

abbrev pub decreases-entries : goal.decreases-entries
decreases-entries l = length l.rest

abbrev pub invariant-entries : goal.invariant-entries
invariant-entries l =
    entries_in 1 0 l.initial.bytes ≡ prepend l.entries.items (entries_in (suc (length l.entries.items)) l.last l.rest)
