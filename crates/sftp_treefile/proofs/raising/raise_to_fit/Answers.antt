-- Those that fit hold it.
use Rattle.sftp_treefile.proofs.Imports.{arith, length, ap}
use Rattle.sftp_treefile.proofs.Texts.Raised.{fitting_hold}
use Rattle.sftp_treefile.proofs.raising.raise_to_fit.Goals as goal

pub fitting_limits-limits-requires : goal.fitting_limits-limits-requires
fitting_limits-limits-requires c =
    omega (arith, ap length c.as_slice.ensures, c.requires.count, c.requires.limits.entries.1)

pub returns-clause-may_be : goal.returns-clause-may_be
returns-clause-may_be c = rw (c.fitting_limits-limits.ensures, c.as_slice.ensures) (fitting_hold c.args.file c.requires)
