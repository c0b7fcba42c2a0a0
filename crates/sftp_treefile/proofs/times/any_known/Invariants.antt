-- None of those so far is known.
use Rattle.std.proofs.Common.{◌≡◌}
use Rattle.sftp_treefile.proofs.Imports.{drop, any_times}
use Rattle.sftp_treefile.proofs.times.any_known.Given as goal

abbrev pub invariant-loop-time : goal.invariant-loop-time
invariant-loop-time l = any_times (drop l.time-index l.times) ≡ any_times l.times
