use Rattle.sftp_handles.proofs.Imports.{ap, Ok}
use Rattle.sftp_handles.proofs.Good.Pins.{nothing-open, good-closed_all}
use Rattle.sftp_handles.proofs.sessions.Session.new.Goals as goal

pub invariant_of-result : goal.invariant_of-result
invariant_of-result g c =
    good-closed_all c.args.tree c.unpin_all.new.self (g.T.HandleTable.handles c.empty.result) c.empty.ensures
    c.unpin_all.ensures.unpinned c.unpin_all.ensures.kept

pub returns : goal.returns
returns g c =
    ap Ok
    (nothing-open c.args.tree c.unpin_all.new.self (g.T.HandleTable.handles c.empty.result) c.empty.ensures
    c.unpin_all.ensures.unpinned)
