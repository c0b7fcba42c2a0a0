use Rattle.sftp_handles.proofs.Imports.{Ok, refl, sym, ap, ◌≡◌, ◌∙◌, true, not, NotOpenFor, no_causes, when}
use Rattle.sftp_handles.proofs.Imports.{HasFile, open_at, Good, found_file, refusing}
use Rattle.sftp_packets.specs.declared.requests.Ask.TheVariants as asks
use Rattle.sftp_handles.proofs.OpenFiles.{plain-found, lost, granted-read, granted-has}
use Rattle.sftp_handles.proofs.sessions.Session.readable_at.Goals as goal

pub returns-in-Ok-clause-causes : goal.returns-in-Ok-clause-causes
returns-in-Ok-clause-causes g c offset len =
    plain-found c.args.self.now (asks.Read c.args.handle.now offset len) c.args.handle.now refl refl (λ flags before. refl)
    c.in-Ok.found (sym c.in-Ok.ensures.found) c.in-Ok.ensures.there
    ∙ (ap (λ b. when no_causes NotOpenFor (not b)) (sym c.may_read.ensures)
    ∙ (granted-read c.in-Ok.found (not c.may_read.result) ∙ ap refusing (sym c.grant.ensures)))

pub returns-in-Ok-clause-found : goal.returns-in-Ok-clause-found
returns-in-Ok-clause-found g c =
    granted-has (λ f. found_file (open_at c.args.self.now.handles c.args.handle.now) ≡ Ok f) c.in-Ok.found
    (not c.may_read.result) true c.grant.result c.grant.ensures (λ fit. sym c.in-Ok.ensures.found)

pub returns-in-Ok-clause-there : goal.returns-in-Ok-clause-there
returns-in-Ok-clause-there g c =
    granted-has (λ f. HasFile c.args.self.now.tree.files f.0) c.in-Ok.found (not c.may_read.result) true c.grant.result
    c.grant.ensures (λ fit. c.in-Ok.ensures.there)

pub returns-in-Ok-clause-kept : goal.returns-in-Ok-clause-kept
returns-in-Ok-clause-kept g c =
    granted-has (λ f. Good c.args.self.now) c.in-Ok.found (not c.may_read.result) true c.grant.result c.grant.ensures
    (λ fit. c.in-Ok.ensures.kept)

pub returns-in-Err-clause-causes : goal.returns-in-Err-clause-causes
returns-in-Err-clause-causes g c offset len =
    lost c.args.self.now (asks.Read c.args.handle.now offset len) c.args.handle.now refl refl c.in-Err.cause
    (sym c.in-Err.ensures.found)
