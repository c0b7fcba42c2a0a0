-- A long length, or any other.
use Rattle.sftp_treefile.proofs.fields.length_at.Goals as goal

pub returns-then-is_long-clause-none : goal.returns-then-is_long-clause-none
returns-then-is_long-clause-none c = rw c.if-is_long.true c.long_length_at.ensures.none

pub returns-else-is_long-clause-none : goal.returns-else-is_long-clause-none
returns-else-is_long-clause-none c = rw c.if-is_long.false c.short_length_at.ensures.none
