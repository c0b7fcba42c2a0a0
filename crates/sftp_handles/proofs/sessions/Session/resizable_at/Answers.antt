use Rattle.sftp_handles.proofs.Imports.{◌≡◌, Ok, refl, subst, sym, ap, ◌∙◌, IsTrue, NotOpenFor, no_causes}
use Rattle.sftp_handles.proofs.Imports.{when, size_fits, IsKept, HasFile, content_at, limits, open_at, State}
use Rattle.sftp_handles.proofs.Imports.{found_file, with_room, refusing}
use Rattle.sftp_packets.specs.declared.requests.Ask.TheVariants as asks
use Rattle.sftp_handles.proofs.OpenFiles.{set-found, set-room, lost, granted-room, granted-has}
use Rattle.sftp_handles.proofs.sessions.Session.resizable_at.Goals as goal

pub returns-in-Ok-clause-causes : goal.returns-in-Ok-clause-causes
returns-in-Ok-clause-causes g c =
    let s = c.args.self.now in
    let fits = c.size_fits.result in
    set-found s c.args.handle.now c.args.attrs.now c.in-Ok.found fits (sym c.in-Ok.ensures.found)
    (set-room s.tree c.in-Ok.found.0 c.args.attrs.now fits (content_at s.tree.files c.in-Ok.found.0)
    (subst (λ (s : State). IsKept s.tree) c.self.view_is c.self.invariant.tree) refl c.in-Ok.ensures.there
    (c.size_fits.ensures.fits ∙ ap (λ (s : State). size_fits s.tree c.in-Ok.found.0 c.args.attrs.now.size) c.self.view_is))
    ∙ (ap (λ b. with_room (when no_causes NotOpenFor b) fits) (sym c.cannot_resize.ensures)
    ∙ (granted-room c.in-Ok.found c.cannot_resize.result fits ∙ ap refusing (sym c.grant.ensures)))

pub returns-in-Ok-clause-found : goal.returns-in-Ok-clause-found
returns-in-Ok-clause-found g c =
    granted-has (λ f. found_file (open_at c.args.self.now.handles c.args.handle.now) ≡ Ok f) c.in-Ok.found
    c.cannot_resize.result c.size_fits.result c.grant.result c.grant.ensures (λ fit. sym c.in-Ok.ensures.found)

pub returns-in-Ok-clause-there : goal.returns-in-Ok-clause-there
returns-in-Ok-clause-there g c =
    granted-has (λ f. HasFile c.args.self.now.tree.files f.0) c.in-Ok.found c.cannot_resize.result c.size_fits.result
    c.grant.result c.grant.ensures (λ fit. c.in-Ok.ensures.there)

pub returns-in-Ok-clause-fits : goal.returns-in-Ok-clause-fits
returns-in-Ok-clause-fits g c =
    granted-has (λ f. IsTrue (size_fits c.args.self.now.tree f.0 c.args.attrs.now.size)) c.in-Ok.found
    c.cannot_resize.result c.size_fits.result c.grant.result c.grant.ensures
    (λ fit.
    ap (λ (s : State). size_fits s.tree c.in-Ok.found.0 c.args.attrs.now.size) (sym c.self.view_is)
    ∙ (sym c.size_fits.ensures.fits ∙ fit))

pub returns-in-Err-clause-causes : goal.returns-in-Err-clause-causes
returns-in-Err-clause-causes g c =
    lost c.args.self.now (asks.Fsetstat c.args.handle.now c.args.attrs.now) c.args.handle.now refl refl c.in-Err.cause
    (sym c.in-Err.ensures.found)
