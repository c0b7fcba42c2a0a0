use Rattle.std.proofs.Common.{◌≡◌}
use Rattle.sftp_serving.proofs.RunLaws.{over_input}
use Rattle.sftp_serving.proofs.serving.served_from.Goals as goal

pub returns-clause-served : goal.returns-clause-served
returns-clause-served g c =
    let same : g.I.Read.remaining c.new-reader.result.inner.inner.now ≡ g.I.Read.remaining c.args.input.now
    = rw (c.new-reader.ensures.inner, c.new.ensures) in
    over_input _ _ _ _ _ _ _ _ same c.served-end.ensures.served
