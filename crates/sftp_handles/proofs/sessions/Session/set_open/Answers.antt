use Rattle.sftp_handles.proofs.Imports.{◌≡◌, subst, ap, IfErr, OnOk, limits, size_fits, after_set}
use Rattle.sftp_handles.proofs.Imports.{IsRoomRefusal, State, Good}
use Rattle.sftp_packets.specs.declared.requests.Ask.TheVariants as asks
use Rattle.sftp_handles.proofs.Good.Pins.{state_of}
use Rattle.sftp_handles.proofs.OpenFiles.{only-holds}
use Rattle.sftp_handles.proofs.OpenFiles.{set-ends, call-refused}
use Rattle.sftp_handles.proofs.sessions.Session.set_open.Goals as goal

pub returns-in-Ok-clause-done : goal.returns-in-Ok-clause-done
returns-in-Ok-clause-done g c =
    set-ends c.args.self.now c.args.handle.now c.args.attrs.now c.in-Ok.found
    (subst Good c.self.view_is c.self.invariant) c.in-Ok.ensures.causes c.in-Ok.ensures.found c.in-Ok.ensures.there
    c.set_file.result c.set_file.new.self (state_of c.set_file.new.self (g.T.HandleTable.handles c.self.inside.table))
    c.set_file.ensures.valid
    (subst
    (λ (s : State). OnOk c.set_file.result (c.set_file.new.self ≡ after_set s.tree c.in-Ok.found.0 c.args.attrs.now))
    c.self.view_is c.set_file.ensures.done)
    (ap (λ (s : State). state_of c.set_file.new.self s.handles) c.self.view_is)

pub returns-in-Ok-clause-refused : goal.returns-in-Ok-clause-refused
returns-in-Ok-clause-refused g c =
    let s = c.args.self.now in
    call-refused s (asks.Fsetstat c.args.handle.now c.args.attrs.now) (size_fits s.tree c.in-Ok.found.0 c.args.attrs.now.size)
    c.set_file.result c.in-Ok.ensures.fits
    (subst
    (λ (s : State). IfErr c.set_file.result (IsRoomRefusal (size_fits s.tree c.in-Ok.found.0 c.args.attrs.now.size)))
    c.self.view_is c.set_file.ensures.refused)

pub returns-in-Err-clause-refused : goal.returns-in-Err-clause-refused
returns-in-Err-clause-refused g c =
    only-holds c.args.self.now (asks.Fsetstat c.args.handle.now c.args.attrs.now) c.in-Err.cause c.in-Err.ensures.causes
