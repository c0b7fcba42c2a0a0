use Rattle.sftp_tree.proofs.Imports.{Some, [], ◌∷◌, ap, sym, ◌∙◌, node_at, is_taken, branch_seen}
use Rattle.sftp_tree.proofs.Nesting.Changes.{child-taken}
use Rattle.sftp_tree.proofs.entries.directories.Dir.has_at.Goals as goal

pub returns-in-Some-Dir : goal.returns-in-Some-Dir
returns-in-Some-Dir c = c.is_some.ensures ∙ child-taken c.child.result c.child.ensures.branch
    ∙ ap is_taken (sym (c.child.ensures.below [])
    ∙ sym (ap (λ seen. node_at (branch_seen seen) (c.args.name.now ∷ [])) (c.in-Some-Dir.is ∙ ap Some c.in-Some-Dir.field-0-is))
    ∙ c.at.ensures.below (c.args.name.now ∷ []))
