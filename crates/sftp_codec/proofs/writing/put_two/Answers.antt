-- Two numbers are written as one of eight bytes.
use Rattle.std.proofs.Common.{List, ℕ, ◌++◌, ◌∙◌, ap, arith}
use Rattle.sftp_strings.proofs.Bytes.{two_as_one}
use Rattle.sftp_codec.proofs.writing.put_two.Goals as goal

pub returns-clause-ok : goal.returns-clause-ok
returns-clause-ok c =
    c.in_ok-put_u64.ensures.ok
    ∙ ap (λ (x : List ℕ). c.args.out.now.items ++ x) (two_as_one c.args.numbers.0 c.args.numbers.1 (omega arith) (omega arith))
