use Rattle.sftp_handles.proofs.HandleTables.NewHandles.{left-fits, asked-room}
use Rattle.sftp_handles.proofs.laws.handles_have_room.Goals as goal

pub returns : goal.returns
returns c = record { left = left-fits; opening = asked-room }
