use Rattle.std.proofs.Common.{◌≡◌}
use Rattle.sftp_serving.proofs.RunLaws.{over_output}
use Rattle.sftp_serving.proofs.serving.served_to.Goals as goal

pub returns-clause-served : goal.returns-clause-served
returns-clause-served g c =
    let same : g.O.Write.contents c.new-writer.result.inner.inner.output.now ≡ g.O.Write.contents c.args.output.now
    = rw (c.new-writer.ensures.inner, c.new.ensures) in
    over_output _ _ _ _ _ _ _ _ same c.served_from-end.ensures.served
