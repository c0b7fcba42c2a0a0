use Rattle.sftp_handles.proofs.Imports.{◌≡◌, Some, subst, IsFree, stat_ask, State, Good}
use Rattle.sftp_tree.specs.Told as told
use Rattle.sftp_handles.proofs.Judged.QueryReplies.{carries-stat, stat-refusal}
use Rattle.sftp_handles.proofs.sessions.Session.stat_payload.Goals as goal

pub returns-in-Ok-clause-carried : goal.returns-in-Ok-clause-carried
returns-in-Ok-clause-carried g c =
    let ask = stat_ask c.args.follow c.args.path.now in
    carries-stat c.args.self.now c.args.follow c.args.path.now c.in-Ok.shown
    (subst Good c.self.view_is c.self.invariant)
    (subst (λ (s : State). IsFree s.tree ask) c.self.view_is c.in-Ok.ensures.free)
    (subst (λ (s : State). told.shown_to s.tree ask ≡ Some c.in-Ok.shown) c.self.view_is c.in-Ok.ensures.shown)

pub returns-in-Err-clause-refused : goal.returns-in-Err-clause-refused
returns-in-Err-clause-refused g c =
    let ask = stat_ask c.args.follow c.args.path.now in
    stat-refusal c.args.self.now c.args.follow c.args.path.now c.in-Err.refused
    (subst (λ (s : State). told.IsRefusal s.tree ask c.in-Err.refused) c.self.view_is c.in-Err.ensures.refused)
