use Rattle.sftp_tree.proofs.Imports.{sym, ap, ◌∙◌, CauseSet, asked, IsRefusal}
use Rattle.sftp_tree.specs.declared.causes.Refused.{Refused}
use Rattle.sftp_tree.specs.declared.causes.Refused.TheVariants as refusals
use Rattle.sftp_tree.specs.Plans.{placed, new_placed}
use Rattle.sftp_tree.proofs.CauseLaws.{exit, own-holds, lost-holds}
use Rattle.sftp_tree.proofs.Walks.Counts.{lost-placed}
use Rattle.sftp_tree.proofs.trees.Tree.free_places.Goals as goal

pub returns-in_err-refuse-clause-refused : goal.returns-in_err-refuse-clause-refused
returns-in_err-refuse-clause-refused c =
    let cause = c.in_err-refuse.field-0.0 in
    exit _ (λ (refused : Refused). IsRefusal c.args.self.now (asked c.args.ask) refused) (refusals.Cause cause) c.from_residual.ensures.1
    (own-holds c.args.self.now (asked c.args.ask) cause (ap (λ (set : CauseSet). set cause) (sym c.own_causes.ensures) ∙ c.in_err-refuse.ensures.cause))

pub returns-in_err-places-clause-refused : goal.returns-in_err-places-clause-refused
returns-in_err-places-clause-refused c =
    let cause = c.in_err-places.field-0.0 in
    exit _ (λ (refused : Refused). IsRefusal c.args.self.now (asked c.args.ask) refused) (refusals.Cause cause) c.from_residual-in_err-places.ensures.1
    (lost-holds c.args.self.now (asked c.args.ask) (placed c.in_ok-ends.ends.old) (new_placed c.in_ok-ends.ends.new) cause c.in_ok-ends.ensures.old c.in_ok-ends.ensures.new
    (lost-placed c.in_ok-ends.ends.old c.in_ok-ends.ends.new cause c.in_err-places.ensures.lost))
