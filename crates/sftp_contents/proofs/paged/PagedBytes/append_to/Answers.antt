use Rattle.std.proofs.Common.{◌≡◌, take, drop, ◌++◌, sym, ap, ◌∙◌}
use Rattle.sftp_contents.specs.Bytes.{tabulate}
use Rattle.sftp_contents.specs.Pieces.{byte_at}
use Rattle.sftp_contents.proofs.Whole.{range-of}
use Rattle.sftp_contents.proofs.paged.PagedBytes.append_to.Goals as goal

pub returns : goal.returns
returns c =
    let e = range-of c.self.inside.store c.self.inside.len c.args.offset c.args.most c.min-start.result
    c.min-count.result c.min-start.ensures c.min-count.ensures in
    let r : c.read.new.into.items ≡ c.reserve.new.self.items
    ++ tabulate (byte_at c.self.inside.store) c.min-start.result c.min-count.result = c.in_ok-read.ensures in
    r ∙ ap (λ t. t ++ tabulate (byte_at c.self.inside.store) c.min-start.result c.min-count.result) c.reserve.ensures.items
    ∙ ap (λ t. c.args.into.now.items ++ t)
    (sym e ∙ ap (λ t. take c.args.most (drop c.args.offset t)) c.self.view_is)
