use Rattle.std.proofs.Common.{◌≡◌, ◌++◌, take}
use Rattle.sftp_times.specs.Times.{entries_text}
use Rattle.sftp_times.proofs.files.put_entries.Given as goal

abbrev pub invariant-entries : goal.invariant-entries
invariant-entries l = l.bytes.items ≡ l.initial.bytes.items ++ entries_text (take l.time-index l.times)
