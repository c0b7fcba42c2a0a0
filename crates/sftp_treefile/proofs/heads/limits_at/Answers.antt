-- The limits after each opening.
use Rattle.sftp_treefile.proofs.heads.limits_at.Goals as goal

pub returns-in-Raised-clause-none : goal.returns-in-Raised-clause-none
returns-in-Raised-clause-none c = rw c.in-Raised.is c.raised_limits_at.ensures.none

pub returns-in-Wide-clause-none : goal.returns-in-Wide-clause-none
returns-in-Wide-clause-none c = rw c.in-Wide.is c.wide_limits_at.ensures.none
