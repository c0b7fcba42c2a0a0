-- Times, or none.
use Rattle.sftp_treefile.proofs.Texts.Entries.{no_times_read}
use Rattle.sftp_treefile.proofs.fields.times_at.Goals as goal

pub returns-then-has_times-clause-none : goal.returns-then-has_times-clause-none
returns-then-has_times-clause-none c = rw c.if-has_times.true c.known_times_at.ensures.none

pub returns-else-has_times-clause-found : goal.returns-else-has_times-clause-found
returns-else-has_times-clause-found c = rw c.if-has_times.false (no_times_read c.args.bytes.now)
