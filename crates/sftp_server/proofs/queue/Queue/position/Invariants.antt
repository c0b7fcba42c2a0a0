use Rattle.sftp_server.proofs.Imports.{◌-◌, ◌≤◌, length}
use Rattle.sftp_server.proofs.queue.Queue.position.Given as goal

abbrev pub invariant-each : goal.invariant-each
invariant-each l = l.k ≤ length l.self-inside.entries.items

abbrev pub decreases-each : goal.decreases-each
decreases-each l = length l.self-inside.entries.items - l.k
