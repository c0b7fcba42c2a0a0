use Rattle.sftp_tree.proofs.Imports.{◌++◌, ap, ◌∙◌, left_of}
use Rattle.sftp_tree.proofs.Walks.{left_of-push}
use Rattle.sftp_tree.proofs.route.Targets.next_component.Goals as goal

pub loop-component-preserved : goal.loop-component-preserved
loop-component-preserved c =
    c.loop-component.invariant ∙ ap (λ xs. xs ++ left_of c.loop-component.self-inside.behind.items) c.in_default.ensures.steps.0
    ∙ ap left_of c.in_ok-self-inside.ensures.items ∙ left_of-push c.pop.new.self.items c.in_ok-self-inside.field-0
