use Rattle.std.proofs.Common.{ap, ◌∙◌, arith}
use Rattle.sftp_contents.specs.Bytes.{resized}
use Rattle.sftp_contents.proofs.Whole.{view-resized}
use Rattle.sftp_contents.proofs.paged.PagedBytes.set_len.Goals as goal

pub resize-requires-clause-zeros : goal.resize-requires-clause-zeros
resize-requires-clause-zeros c = c.self.invariant.0

pub invariant_of-self : goal.invariant_of-self
invariant_of-self c = (c.resize.ensures.zeros, omega arith)

pub returns : goal.returns
returns c =
    view-resized c.self.inside.store c.resize.new.store c.self.inside.len c.args.size c.self.invariant.0
    c.resize.ensures.kept ∙ ap (resized c.args.size) c.self.view_is
