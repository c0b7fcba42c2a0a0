use Rattle.sftp_handles.proofs.Imports.{◌≡◌, refl, subst, ap, ◌∙◌, IfOk, HasFile, State, found_file}
use Rattle.sftp_handles.proofs.Imports.{refusing, causes}
use Rattle.sftp_packets.specs.declared.requests.Ask.TheVariants as asks
use Rattle.sftp_handles.proofs.OpenFiles.{file-there, file-causes}
use Rattle.sftp_handles.proofs.Good.Pins.{state_of}
use Rattle.sftp_handles.proofs.sessions.Session.file_at.Goals as goal

pub returns-clause-shown : goal.returns-clause-shown
returns-clause-shown g c =
    subst (λ (s : State). causes s (asks.Fstat c.args.handle.now) ≡ refusing c.file_in.result) c.self.view_is
    (file-causes (state_of c.self.inside.tree (g.T.HandleTable.handles c.self.inside.table)) (asks.Fstat c.args.handle.now)
    c.args.handle.now refl refl (λ flags before. refl) (λ flags. refl) c.file_in.result c.self.invariant
    (c.file_in.ensures ∙ ap found_file c.find.ensures))

pub returns-clause-flushed : goal.returns-clause-flushed
returns-clause-flushed g c =
    subst (λ (s : State). causes s (asks.Fsync c.args.handle.now) ≡ refusing c.file_in.result) c.self.view_is
    (file-causes (state_of c.self.inside.tree (g.T.HandleTable.handles c.self.inside.table)) (asks.Fsync c.args.handle.now)
    c.args.handle.now refl refl (λ flags before. refl) (λ flags. refl) c.file_in.result c.self.invariant
    (c.file_in.ensures ∙ ap found_file c.find.ensures))

pub returns-clause-there : goal.returns-clause-there
returns-clause-there g c =
    subst (λ (s : State). IfOk c.file_in.result (λ f. HasFile s.tree.files f.0)) c.self.view_is
    (file-there (state_of c.self.inside.tree (g.T.HandleTable.handles c.self.inside.table)) c.args.handle.now
    c.file_in.result c.self.invariant (c.file_in.ensures ∙ ap found_file c.find.ensures))
