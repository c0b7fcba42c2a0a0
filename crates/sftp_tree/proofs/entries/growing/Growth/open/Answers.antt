-- A new directory has its own entry alone.
use Rattle.sftp_tree.proofs.Imports.{◌++◌, ◌∷◌, [], ◌∙◌, Opened, Dir, names_from, placed}
use Rattle.sftp_tree.proofs.Nesting.{names_push, names_more}
use Rattle.sftp_tree.proofs.entries.growing.Growth.open.Goals as goal

pub returns-clause-names : goal.returns-clause-names
returns-clause-names c =
    let os = c.args.self.now.above.items in
    let opened : Opened = record { dir = c.replace-dir.result; name = c.args.name } in
    (λ i. names_from (c.in_ok-push.ensures.items i) (c.replace-dir.ensures.after i)) ∙ names_push os opened c.new.result
    ∙ (λ i. names_from os (c.replace-dir.ensures.value i ++ placed c.args.name (c.new.ensures i)))
    ∙ names_more os c.args.self.now.top (c.args.name ∷ []) (Dir c.args.owner)
