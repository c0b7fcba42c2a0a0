use Rattle.sftp_handles.proofs.Imports.{refl, subst, sym, ap, ◌∙◌, not, NotOpenFor, no_causes, when, write_fits}
use Rattle.sftp_handles.proofs.Imports.{IsKept, HasFile, content_at, limits, State, with_room, refusing, IsWritable}
use Rattle.sftp_packets.specs.declared.requests.Ask.TheVariants as asks
use Rattle.sftp_handles.proofs.OpenFiles.{write-found, write-room, lost, granted-room, granted-has}
use Rattle.sftp_handles.proofs.sessions.Session.writable_at.Goals as goal

pub returns-in-Ok-clause-causes : goal.returns-in-Ok-clause-causes
returns-in-Ok-clause-causes g c =
    let s = c.args.self.now in
    let start = c.start_of-start.result in
    let fits = c.write_fits-fits.result in
    write-found s c.args.handle.now c.args.offset c.args.bytes.now c.in-Ok.found fits (sym c.in-Ok.ensures.found)
    (write-room s.tree c.in-Ok.found.0 start c.in-Ok.found.1 c.args.offset c.args.bytes.now fits
    (content_at s.tree.files c.in-Ok.found.0)
    (subst (λ (s : State). IsKept s.tree) c.self.view_is c.self.invariant.tree) refl c.start_of-start.ensures
    (c.write_fits-fits.ensures
    ∙ ap (λ (s : State). write_fits s.tree c.in-Ok.found.0 start c.args.bytes.now) c.self.view_is))
    ∙ (ap (λ b. with_room (when no_causes NotOpenFor (not b)) fits) (sym c.may_write.ensures)
    ∙ (granted-room (c.in-Ok.found.0, start) (not c.may_write.result) fits ∙ ap refusing (sym c.grant.ensures)))

pub returns-in-Ok-clause-found : goal.returns-in-Ok-clause-found
returns-in-Ok-clause-found g c =
    let s = c.args.self.now in
    let start = c.start_of-start.result in
    granted-has (IsWritable s c.args.handle.now c.args.offset c.args.bytes.now) (c.in-Ok.found.0, start)
    (not c.may_write.result) c.write_fits-fits.result c.grant.result c.grant.ensures
    (λ fit. record {
      flags = c.in-Ok.found.1;
      found = sym c.in-Ok.ensures.found;
      starts = c.start_of-start.ensures;
      fits =
          ap (λ (s : State). write_fits s.tree c.in-Ok.found.0 start c.args.bytes.now) (sym c.self.view_is)
          ∙ (sym c.write_fits-fits.ensures ∙ fit);
    })

pub returns-in-Ok-clause-there : goal.returns-in-Ok-clause-there
returns-in-Ok-clause-there g c =
    granted-has (λ it. HasFile c.args.self.now.tree.files it.0) (c.in-Ok.found.0, c.start_of-start.result)
    (not c.may_write.result) c.write_fits-fits.result c.grant.result c.grant.ensures (λ fit. c.in-Ok.ensures.there)

pub returns-in-Err-clause-causes : goal.returns-in-Err-clause-causes
returns-in-Err-clause-causes g c =
    lost c.args.self.now (asks.Write c.args.handle.now c.args.offset c.args.bytes.now) c.args.handle.now refl refl
    c.in-Err.cause (sym c.in-Err.ensures.found)
