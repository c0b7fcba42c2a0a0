-- Each write appends the front of what is left.
use Rattle.std.proofs.lemmas.List.{take_rest}
use Rattle.sftp_streams.proofs.Buffers.{IsPutBefore-next}
use Rattle.sftp_streams.proofs.writing.put_all.Goals as goal

pub rest-preserved : goal.rest-preserved
rest-preserved g c = rw (take_rest c.rest.rest.now c.in_ok-count.count)
    (IsPutBefore-next _ _ _ _ _ _ _ _ c.in_ok-count.count c.rest.invariant c.in_ok-count.ensures.bytes c.in_ok-count.ensures.counts)
