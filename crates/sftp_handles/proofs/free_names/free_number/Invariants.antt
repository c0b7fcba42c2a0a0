use Rattle.sftp_handles.proofs.Imports.{◌≤◌, ◌-◌, handles_in}
use Rattle.sftp_handles.proofs.HandleTables.SlotTables.{AreOpenBelow}
use Rattle.sftp_handles.proofs.free_names.free_number.Given as goal

abbrev pub invariant-taken : goal.invariant-taken
invariant-taken l = AreOpenBelow l.number (handles_in (λ k. k.items) l.opens.entries) × (l.number ≤ 65536)

abbrev pub decreases-taken : goal.decreases-taken
decreases-taken l = 65536 - l.number
