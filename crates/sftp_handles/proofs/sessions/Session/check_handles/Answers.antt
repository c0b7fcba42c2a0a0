use Rattle.sftp_handles.proofs.Imports.{sym, subst, ◌∙◌, err_from_is_err_and, IsFree, State}
use Rattle.sftp_tree.specs.Told.{IsRefusal}
use Rattle.sftp_handles.proofs.Answered.NameReplies.{handles-refuse, path-refuses}
use Rattle.sftp_handles.proofs.sessions.Session.check_handles.Goals as goal

pub returns-in_err-check-clause-refused : goal.returns-in_err-check-clause-refused
returns-in_err-check-clause-refused g c =
    let p = err_from_is_err_and c.from_residual.result c.from_residual.ensures.1 in
    rw (p.1, p.2)
    (path-refuses c.args.self.now c.args.ask.now c.in_err-check.field-0.0 c.requires
    (subst (λ (s : State). IsRefusal s.tree c.args.ask.now c.in_err-check.field-0.0) c.self.view_is
    c.in_err-check.ensures.refused))

pub returns-clause-refused : goal.returns-clause-refused
returns-clause-refused g c =
    handles-refuse c.args.self.now c.args.ask.now c.requires
    (subst (λ (s : State). IsFree s.tree c.args.ask.now) c.self.view_is c.in_ok-check.ensures.free)
    (sym c.has_handle_left.ensures ∙ c.if-has_handle_left.false)
