use Rattle.sftp_handles.proofs.HandleTables.NewHandles.{handle-opens}
use Rattle.sftp_handles.proofs.laws.handles_open_something.Goals as goal

pub returns : goal.returns
returns c = handle-opens c.walks_give_places.ensures.unlinked
