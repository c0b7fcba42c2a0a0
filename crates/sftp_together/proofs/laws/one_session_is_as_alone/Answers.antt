use Rattle.sftp_together.proofs.Alone.{of-one, as-one, only-order}
use Rattle.sftp_together.proofs.laws.one_session_is_as_alone.Goals as goal

pub returns-clause-alone : goal.returns-clause-alone
returns-clause-alone g c = of-one g.J.Judges.allowed

pub returns-clause-together : goal.returns-clause-together
returns-clause-together g c = as-one g.J.Judges.allowed

pub returns-clause-order : goal.returns-clause-order
returns-clause-order g c = only-order
