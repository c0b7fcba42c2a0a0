use Rattle.sftp_handles.proofs.Imports.{sym, subst, IsTrue, State, has_handle_left}
use Rattle.sftp_handles.proofs.Good.Pins.{state_of}
use Rattle.sftp_handles.proofs.HandleTables.NewHandles.{few-handles}
use Rattle.sftp_handles.proofs.sessions.Session.free_name.Goals as goal

pub free_name-requires : goal.free_name-requires
free_name-requires g c =
    few-handles (state_of c.self.inside.tree (g.T.HandleTable.handles c.self.inside.table)) c.self.invariant
    (subst (λ (s : State). IsTrue (has_handle_left s)) (sym c.self.view_is) c.requires)
