use Rattle.sftp_audit.proofs.Imports.{Allowed, started, closed_tree}
use Rattle.sftp_handles.proofs.Judged.{allowed-one_end}
use Rattle.sftp_audit.proofs.streams.FirstFaults.{same_start, same_events, same_end}
use Rattle.sftp_audit.proofs.laws.one_account.Goals as goal

pub returns-clause-start : goal.returns-clause-start
returns-clause-start c = same_start Allowed allowed-one_end started closed_tree

pub returns-clause-events : goal.returns-clause-events
returns-clause-events c = same_events Allowed allowed-one_end started closed_tree

pub returns-clause-end : goal.returns-clause-end
returns-clause-end c = same_end Allowed allowed-one_end started closed_tree
