use Rattle.sftp_handles.proofs.Imports.{ap, subst, ◌∙◌, limits, State, Good, limits_data}
use Rattle.sftp_handles.proofs.Answered.LimitsAnswers.{carries-limits}
use Rattle.sftp_handles.proofs.sessions.Session.limits_payload.Goals as goal

pub returns-clause-carried : goal.returns-clause-carried
returns-clause-carried g c =
    let bounds = c.tree_limits.ensures.limits ∙ ap (λ (x : State). limits x.tree) c.self.view_is in
    carries-limits c.args.self.now c.in_ok-told.told (subst Good c.self.view_is c.self.invariant)
    (c.in_ok-told.ensures ∙ ap limits_data bounds)
