use Rattle.sftp_handles.proofs.HandleTables.SlotTables.{first-bytes}
use Rattle.sftp_handles.proofs.slab_table.SlabTableHandleTable.take.Goals as goal

pub returns-clause-next : goal.returns-clause-next
returns-clause-next c =
    first-bytes c.args.name.now c.take_slot.new.opens.vacant_key c.in_ok-slot.slot.serial c.in_ok-slot.ensures.freed
