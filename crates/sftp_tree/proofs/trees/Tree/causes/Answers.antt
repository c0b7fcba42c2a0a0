use Rattle.sftp_tree.proofs.Imports.{sym, ap, ◌∙◌, CauseSet}
use Rattle.sftp_tree.proofs.CauseLaws.{unjudged}
use Rattle.sftp_tree.proofs.trees.Tree.causes.Goals as goal

pub returns-in-None : goal.returns-in-None
returns-in-None c cause =
    ap (λ (set : CauseSet). set cause) (c.none.ensures ∙ sym (unjudged c.args.self.now c.args.ask.now c.in-None.ensures c.home-home.ensures.kept.within_limits))
