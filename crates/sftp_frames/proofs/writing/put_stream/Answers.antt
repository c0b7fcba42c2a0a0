-- Each frame has the front of what is left.
use Rattle.std.proofs.Common.{◌≢◌, [], arith}
use Rattle.sftp_frames.proofs.FrameTexts.{written-next}
use Rattle.sftp_frames.proofs.writing.put_stream.Goals as goal

pub rest-preserved : goal.rest-preserved
rest-preserved g c =
    let some : c.rest.rest.now ≢ [] = grind (arith, c.is_empty.ensures, c.rest-test.true) in
    rw c.split_at.ensures.back (rw c.min.ensures
    (written-next c.args.client _ (g.W.Sink.written c.rest.sink) _ _ (g.W.Sink.failures c.rest.sink) _ c.args.bytes.now c.rest.rest.now
    c.rest.invariant c.ranges.client.fits some
    (rw (← c.min.ensures) (rw (← c.split_at.ensures.front) c.in_ok-put_frame.ensures.ok))
    c.in_ok-put_frame.ensures.counts))
