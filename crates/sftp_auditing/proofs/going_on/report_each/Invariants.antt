use Rattle.std.proofs.Common.{◌-◌}
use Rattle.sftp_auditing.proofs.going_on.report_each.Given as goal

abbrev pub decreases-findings : goal.decreases-findings
decreases-findings g l = l.most - l.findings
