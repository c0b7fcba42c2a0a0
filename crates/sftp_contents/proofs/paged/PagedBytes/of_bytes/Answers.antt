use Rattle.std.proofs.Common.{arith}
use Rattle.sftp_contents.proofs.Whole.{view-front, zeros-front}
use Rattle.sftp_contents.proofs.paged.PagedBytes.of_bytes.Goals as goal

pub invariant_of-result : goal.invariant_of-result
invariant_of-result c =
    (zeros-front _ c.len-len.result (omega arith) (omega arith) c.new.ensures.empty, omega arith)

pub returns : goal.returns
returns c =
    view-front (record { front = c.args.bytes; room = c.max.result; pages = c.new.result }) c.len-len.result (omega arith) (omega arith)
