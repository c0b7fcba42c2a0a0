use Rattle.sftp_tree.proofs.Imports.{◌++◌, ap, ◌∙◌, Split, left_of}
use Rattle.sftp_tree.proofs.Walks.{left_of-push}
use Rattle.sftp_tree.proofs.route.Targets.push_front.Goals as goal

pub returns-in_ok-push : goal.returns-in_ok-push
returns-in_ok-push c = ap (λ (s : Split). s.left ++ left_of c.push.new.self.items) c.replace-before.ensures.after
    ∙ ap (λ xs. c.args.target.left ++ xs) (ap left_of c.in_ok-push.ensures.items ∙ left_of-push c.self.inside.behind.items c.replace-before.result
    ∙ ap (λ (s : Split). s.left ++ left_of c.self.inside.behind.items) c.replace-before.ensures.value ∙ c.self.view_is)
