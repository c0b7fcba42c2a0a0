use Rattle.sftp_tree.proofs.Imports.{◌++◌, ap, ◌∙◌, Split, left_of}
use Rattle.sftp_path.proofs.PathTexts.{components-nil}
use Rattle.sftp_tree.proofs.route.Targets.new.Goals as goal

pub returns : goal.returns
returns c =
    ap (λ (s : Split). s.left ++ left_of c.new-2.result.items) c.new.ensures ∙ ap (λ xs. xs ++ left_of c.new-2.result.items) components-nil
    ∙ ap left_of c.new-2.ensures.items
