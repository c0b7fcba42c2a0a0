use Rattle.std.proofs.Common.{ap, ◌∙◌, length, arith}
use Rattle.sftp_contents.proofs.Whole.{view-front, zeros-front}
use Rattle.sftp_contents.proofs.paged.PagedBytes.new.Goals as goal

pub invariant_of-result : goal.invariant_of-result
invariant_of-result c = (zeros-front _ 0 (ap length c.new.ensures.items) (omega arith) c.new-2.ensures.empty, omega arith)

pub returns : goal.returns
returns c =
    view-front (record { front = c.new.result; room = 65536; pages = c.new-2.result }) 0
    (ap length c.new.ensures.items) (omega arith) ∙ c.new.ensures.items
