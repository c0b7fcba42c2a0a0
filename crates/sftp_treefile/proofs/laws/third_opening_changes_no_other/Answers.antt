-- Each in turn.
use Rattle.sftp_treefile.proofs.Texts.Two.{two_kept, two_narrow, two_only, two_same}
use Rattle.sftp_treefile.proofs.laws.third_opening_changes_no_other.Goals as goal

pub returns-clause-kept : goal.returns-clause-kept
returns-clause-kept c = two_kept

pub returns-clause-narrow : goal.returns-clause-narrow
returns-clause-narrow c = two_narrow

pub returns-clause-only : goal.returns-clause-only
returns-clause-only c = two_only

pub returns-clause-same : goal.returns-clause-same
returns-clause-same c = two_same
