use Rattle.sftp_handles.proofs.Imports.{◌≡◌, subst, ap, IfErr, OnOk, limits, write_fits, after_write}
use Rattle.sftp_handles.proofs.Imports.{IsRoomRefusal, State, Good}
use Rattle.sftp_packets.specs.declared.requests.Ask.TheVariants as asks
use Rattle.sftp_handles.proofs.Good.Pins.{state_of}
use Rattle.sftp_handles.proofs.OpenFiles.{only-holds}
use Rattle.sftp_handles.proofs.OpenFiles.{write-ends, call-refused}
use Rattle.sftp_handles.proofs.sessions.Session.write_open.Goals as goal

pub returns-in-Ok-clause-done : goal.returns-in-Ok-clause-done
returns-in-Ok-clause-done g c =
    write-ends c.args.self.now c.args.handle.now c.args.offset c.args.bytes.now c.in-Ok.found
    (subst Good c.self.view_is c.self.invariant) c.in-Ok.ensures.causes c.in-Ok.ensures.found c.write_at.result
    c.write_at.new.self (state_of c.write_at.new.self (g.T.HandleTable.handles c.self.inside.table))
    c.write_at.ensures.valid
    (subst
    (λ (s : State).
    OnOk c.write_at.result (c.write_at.new.self ≡ after_write s.tree c.in-Ok.found.0 c.in-Ok.found.1 c.args.bytes.now))
    c.self.view_is c.write_at.ensures.done)
    (ap (λ (s : State). state_of c.write_at.new.self s.handles) c.self.view_is)

pub returns-in-Ok-clause-refused : goal.returns-in-Ok-clause-refused
returns-in-Ok-clause-refused g c =
    let s = c.args.self.now in
    call-refused s (asks.Write c.args.handle.now c.args.offset c.args.bytes.now)
    (write_fits s.tree c.in-Ok.found.0 c.in-Ok.found.1 c.args.bytes.now) c.write_at.result c.in-Ok.ensures.found.fits
    (subst
    (λ (s : State).
    IfErr c.write_at.result (IsRoomRefusal (write_fits s.tree c.in-Ok.found.0 c.in-Ok.found.1 c.args.bytes.now)))
    c.self.view_is c.write_at.ensures.refused)

pub returns-in-Err-clause-refused : goal.returns-in-Err-clause-refused
returns-in-Err-clause-refused g c =
    only-holds c.args.self.now (asks.Write c.args.handle.now c.args.offset c.args.bytes.now) c.in-Err.cause
    c.in-Err.ensures.causes
