-- The longest so far, and of those that are left.
use Rattle.std.proofs.Common.{◌≡◌}
use Rattle.sftp_treefile.proofs.Imports.{drop, max}
use Rattle.sftp_treefile.specs.TreeFile as spec
use Rattle.sftp_treefile.proofs.raising.longest.Given as goal

abbrev pub invariant-loop-row : goal.invariant-loop-row
invariant-loop-row l = max l.most (spec.longest (drop l.row-index l.rows)) ≡ spec.longest l.rows
