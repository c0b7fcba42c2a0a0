-- The owner alone, or as that of a directory.
use Rattle.sftp_treefile.proofs.heads.root_owner_at.Goals as goal

pub returns-in-Usual-clause-none : goal.returns-in-Usual-clause-none
returns-in-Usual-clause-none c = rw c.in-Usual.is c.plain_owner_at.ensures.none

pub returns-in-Raised-clause-none : goal.returns-in-Raised-clause-none
returns-in-Raised-clause-none c = rw c.in-Raised.is c.plain_owner_at-in-Raised.ensures.none

pub returns-in-Wide-clause-none : goal.returns-in-Wide-clause-none
returns-in-Wide-clause-none c = rw c.in-Wide.is c.directory_at.ensures.none
