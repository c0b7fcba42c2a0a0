use Rattle.std.proofs.Common.{arith}
use Rattle.sftp_contents.proofs.Whole.{cut-kept, cut-zeros, zeros-longer}
use Rattle.sftp_contents.proofs.cutting.resize.Goals as goal

pub returns-then-size-len-clause-kept : goal.returns-then-size-len-clause-kept
returns-then-size-len-clause-kept c = λ i h. cut-kept c.args.store.now c.cut.new.store c.args.size i c.cut.ensures h

pub returns-then-size-len-clause-zeros : goal.returns-then-size-len-clause-zeros
returns-then-size-len-clause-zeros c = cut-zeros c.args.store.now c.cut.new.store c.args.size c.cut.ensures

pub returns-else-size-len-clause-zeros : goal.returns-else-size-len-clause-zeros
returns-else-size-len-clause-zeros c =
    zeros-longer c.args.store.now c.args.len c.args.size (omega arith) c.requires.zeros
