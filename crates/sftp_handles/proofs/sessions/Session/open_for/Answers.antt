use Rattle.sftp_handles.proofs.Imports.{ap, subst, ◌∙◌, IfOk, IfErr, has_handle_left, Does}
use Rattle.sftp_packets.specs.declared.replies.Answer.TheVariants as replies
use Rattle.sftp_handles.specs.Opening.{IsNotOpened}
use Rattle.sftp_handles.proofs.Good.Pins.{state_of}
use Rattle.sftp_handles.proofs.OpenFiles.Opened.{unchanged-parts}
use Rattle.sftp_handles.proofs.sessions.Session.open_for.Goals as goal

pub open_in-requires-clause-room : goal.open_in-requires-clause-room
open_in-requires-clause-room g c = ap has_handle_left c.self.view_is ∙ c.requires.room

pub returns-clause-done : goal.returns-clause-done
returns-clause-done g c =
    subst
    (λ s. IfOk c.open_in.result (λ name. Does s c.args.ask.now (replies.Handle name.items)
    (state_of c.open_in.new.tree (g.T.HandleTable.handles c.open_in.new.table))))
    c.self.view_is c.open_in.ensures.done

pub returns-clause-failed : goal.returns-clause-failed
returns-clause-failed g c =
    subst (λ s. IfErr c.open_in.result (IsNotOpened s c.args.ask.now c.args.want.items)) c.self.view_is
    c.open_in.ensures.failed

pub returns-clause-kept : goal.returns-clause-kept
returns-clause-kept g c =
    unchanged-parts c.args.self.now c.self.inside.tree c.open_in.new.tree
    (g.T.HandleTable.handles c.self.inside.table) (g.T.HandleTable.handles c.open_in.new.table) c.open_in.result
    c.self.view_is c.open_in.ensures.kept c.open_in.ensures.closed
