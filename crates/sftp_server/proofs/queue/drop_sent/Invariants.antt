use Rattle.sftp_server.proofs.Imports.{◌≡◌, length, from_unsent}
use Rattle.sftp_server.proofs.queue.drop_sent.Given as goal

abbrev pub invariant-sent : goal.invariant-sent
invariant-sent l = from_unsent l.entries.items ≡ from_unsent l.initial.entries.items

abbrev pub decreases-sent : goal.decreases-sent
decreases-sent l = length l.entries.items
