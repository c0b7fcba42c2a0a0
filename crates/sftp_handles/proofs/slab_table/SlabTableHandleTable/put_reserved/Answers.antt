use Rattle.sftp_handles.proofs.Imports.{sym, subst}
use Rattle.slab.specs.Slab.{HasRoomFor}
use Rattle.sftp_handles.specs.Slots.{Slots}
use Rattle.sftp_handles.proofs.slab_table.SlabTableHandleTable.put_reserved.Goals as goal

pub put_open-requires-clause-room : goal.put_open-requires-clause-room
put_open-requires-clause-room c = subst (λ (t : Slots). HasRoomFor t.opens 1) (sym c.self.view_is) c.requires
