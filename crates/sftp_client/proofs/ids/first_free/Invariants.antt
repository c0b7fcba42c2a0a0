use Rattle.std.proofs.Common.{◌<◌, ◌-◌, ℕ, length, IsSome}
use Rattle.sftp_client.specs.Client.{open_at, id_after}
use Rattle.sftp_client.proofs.ids.first_free.Given as goal

-- the ids so far are open
abbrev pub invariant-loop-skipped : goal.invariant-loop-skipped
invariant-loop-skipped l =
    (places : ℕ) → places < l.skipped → IsSome (open_at l.requests.entries (id_after l.next places))

abbrev pub decreases-loop-skipped : goal.decreases-loop-skipped
decreases-loop-skipped l = length l.requests.entries - l.skipped
