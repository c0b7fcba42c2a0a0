use Rattle.std.proofs.Common.{◌≡◌, ◌≤◌, length}
use Rattle.sftp_text.specs.Digits.{digits_from}
use Rattle.sftp_text.proofs.numbers.read_more.Given as goal

abbrev pub invariant-digits : goal.invariant-digits
invariant-digits l = record {
  same : digits_from l.base l.n l.line.now ≡ digits_from l.fn.base l.fn.before l.fn.line.now;
  small : l.n ≤ l.most;
}

abbrev pub decreases-digits : goal.decreases-digits
decreases-digits l = length l.line.now
