-- The most hold it.
use Rattle.sftp_treefile.proofs.Texts.Raised.{most_hold}
use Rattle.sftp_treefile.proofs.raising.raise_to_most.Goals as goal

pub returns-clause-may_be : goal.returns-clause-may_be
returns-clause-may_be c = rw c.most_limits.ensures (most_hold c.args.file c.requires)
