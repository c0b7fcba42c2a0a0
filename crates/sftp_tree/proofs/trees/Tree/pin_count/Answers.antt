use Rattle.sftp_tree.proofs.Imports.{ap, ◌∙◌, Tree, times_pinned}
use Rattle.sftp_tree.proofs.KeptTrees.Counts.{files-in_order}
use Rattle.sftp_tree.proofs.OpenFiles.{pins-counted}
use Rattle.sftp_tree.proofs.trees.Tree.pin_count.Goals as goal

pub returns : goal.returns
returns c = c.pin_count.ensures ∙ pins-counted c.self.inside.files c.args.number
    (files-in_order c.self.inside.files c.self.invariant.0.well_formed.numbered)
    ∙ ap (λ (t : Tree). times_pinned t.pins c.args.number) c.self.view_is
