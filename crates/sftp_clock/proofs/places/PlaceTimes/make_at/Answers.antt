-- Each name that is taken from the path leaves one less.
use Rattle.std.proofs.Common.{arith, ap, length}
use Rattle.sftp_clock.proofs.places.PlaceTimes.make_at.Goals as goal

pub loop-name-smaller : goal.loop-name-smaller
loop-name-smaller c = omega (arith, ap length c.in-Some.ensures.steps)

pub loop-name-preserved : goal.loop-name-preserved
loop-name-preserved c = (tt, tt)
