-- Higher limits hold it.
use Rattle.sftp_treefile.proofs.Texts.Raised.{raised_hold}
use Rattle.sftp_treefile.proofs.raising.raise.Goals as goal

pub returns-clause-may_be : goal.returns-clause-may_be
returns-clause-may_be c = rw c.raised-limits.ensures (raised_hold c.args.file c.requires)
