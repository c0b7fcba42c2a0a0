use Rattle.std.proofs.Common.{arith, sym, ◌∙◌}
use Rattle.sftp_profile.proofs.Pieces.{counted-fits}
use Rattle.sftp_profile.proofs.bytes_read.is_within.Goals as goal

pub returns-clause-fits : goal.returns-clause-fits
returns-clause-fits c =
    λ holds.
    let within =
    counted-fits c.args.bounds c.args.size c.args.offset c.args.len c.args.count (sym c.is_count.ensures ∙ holds) in
    let small = c.ranges.size.fits in
    omega (arith, within, small)
