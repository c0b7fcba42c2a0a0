use Rattle.std.proofs.Common.{◌<◌, length, sym, ◌∙◌, arith}
use Rattle.std.proofs.Math.Facts.{Fits-lt-pow, Fits-of_lt}
use Rattle.sftp_client.proofs.Sessions.{one_more_is_open}
use Rattle.sftp_client.proofs.ids.first_free.Goals as goal
use Rattle.sftp_client.proofs.ids.first_free.Goals.{In-loop-skipped}

-- the id of this round is open, so fewer ids than open requests were skipped before it
few : (c : In-loop-skipped) → c.loop-skipped.skipped < length c.args.requests.now.entries
few c =
    one_more_is_open c.args.requests.now.entries c.args.next c.loop-skipped.skipped (Fits-lt-pow c.ranges.next)
    (Fits-lt-pow c.loop-skipped.auto.skipped-fits) c.loop-skipped.invariant
    (sym c.contains_key.ensures ∙ c.loop-skipped-test.true)

pub overflow_add-skipped : goal.overflow_add-skipped
overflow_add-skipped c = Fits-of_lt (omega (arith, few c, c.requires))

pub loop-skipped-smaller : goal.loop-skipped-smaller
loop-skipped-smaller c = omega (arith, few c)
