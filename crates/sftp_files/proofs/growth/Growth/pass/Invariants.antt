-- No more bytes go by than there are.
use Rattle.std.proofs.Common.{length, ◌-◌, ◌≤◌}
use Rattle.sftp_files.proofs.growth.Growth.pass.Given as goal

abbrev pub invariant-pass : goal.invariant-pass
invariant-pass l = l.passed ≤ length l.bytes

abbrev pub decreases-pass : goal.decreases-pass
decreases-pass l = length l.bytes - l.passed
