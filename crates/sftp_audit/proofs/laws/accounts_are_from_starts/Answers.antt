use Rattle.sftp_audit.proofs.streams.Starts.{by_from, from_by, cut_by_from, cut_from_by, first_from, first_by}
use Rattle.sftp_audit.proofs.laws.accounts_are_from_starts.Goals as goal

pub returns-clause-from : goal.returns-clause-from
returns-clause-from g c by tree transcript start events end told = (
  told.start_is,
  from_by g.J.Judges.allowed (g.J.Judges.begun by) g.J.Judges.closed tree transcript start events end told,
)

pub returns-clause-accounts : goal.returns-clause-accounts
returns-clause-accounts g c by = by_from g.J.Judges.allowed (g.J.Judges.begun by) g.J.Judges.closed

pub returns-clause-cut_from : goal.returns-clause-cut_from
returns-clause-cut_from g c by tree transcript start events end told = (
  told.start_is,
  cut_from_by g.J.Judges.allowed (g.J.Judges.begun by) g.J.Judges.closed tree transcript start events end told,
)

pub returns-clause-cut : goal.returns-clause-cut
returns-clause-cut g c by = cut_by_from g.J.Judges.allowed (g.J.Judges.begun by) g.J.Judges.closed

pub returns-clause-first_from : goal.returns-clause-first_from
returns-clause-first_from g c by tree transcript start e is =
    first_from g.J.Judges.allowed (g.J.Judges.begun by) g.J.Judges.closed tree transcript start e is

pub returns-clause-first : goal.returns-clause-first
returns-clause-first g c by tree transcript start e is =
    first_by g.J.Judges.allowed (g.J.Judges.begun by) g.J.Judges.closed tree transcript start e is
