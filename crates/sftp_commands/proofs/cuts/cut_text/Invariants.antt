use Rattle.std.proofs.Common.{◌-◌, ◌≤◌}
use Rattle.sftp_commands.proofs.CutLaws.{IsCut}
use Rattle.sftp_commands.proofs.cuts.cut_text.Given as goal

abbrev pub decreases-bytes : goal.decreases-bytes
decreases-bytes l = l.limit - l.count

abbrev pub invariant-bytes : goal.invariant-bytes
invariant-bytes l = IsCut l.count l.text l.left × (l.count ≤ l.limit)
