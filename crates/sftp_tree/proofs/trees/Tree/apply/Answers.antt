use Rattle.sftp_tree.proofs.Imports.{sym, ap, ◌∙◌, trim, changed}
use Rattle.sftp_tree.proofs.KeptTrees.{trimmed-already}
use Rattle.sftp_tree.proofs.trees.Tree.apply.Goals as goal

pub returns-in-Nothing-clause-ok : goal.returns-in-Nothing-clause-ok
returns-in-Nothing-clause-ok c =
    let t = c.args.self.now in
    sym (ap (λ plan. trim (changed t plan)) c.in-Nothing.is ∙ trimmed-already t c.requires.0.trimmed)
