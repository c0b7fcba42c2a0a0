-- What is judged by the places of the order is said of the order.
use Rattle.std.proofs.Common.{List, ℕ, sym, subst}
use Rattle.std.proofs.lemmas.Result.{err_from_is_err_and}
use Rattle.sftp_overlapping.specs.Sets.{IsExplainedByPlaces}
use Rattle.sftp_overlapping.proofs.Saying.{order-lost, places-lost}
use Rattle.sftp_overlapping.proofs.judging.judge_files.Goals as goal

pub returns-in_err-places-clause-refused : goal.returns-in_err-places-clause-refused
returns-in_err-places-clause-refused g c =
    let p = err_from_is_err_and c.from_residual.result c.from_residual.ensures.1 in
    rw (p.1, p.2) (λ judged files are. order-lost c.args.rules.profile c.args.rules.tolerance files
    (c.in_err-places.ensures.refused judged files.order files.each are.order_is are.members_are))

pub returns-in-Ok-clause-accepted : goal.returns-in-Ok-clause-accepted
returns-in-Ok-clause-accepted g c = λ files are.
    c.in-Ok.ensures.accepted files.each are.members_are files.tree are.tree_is

pub returns-in-Err-clause-refused : goal.returns-in-Err-clause-refused
returns-in-Err-clause-refused g c = λ judged files are.
    let rules = c.args.rules in
    places-lost rules.profile rules.tolerance files _
    (c.in_ok-places.ensures.read files.order files.each are.order_is are.members_are)
    (λ told. c.in-Err.ensures.refused judged files.each are.members_are files.tree are.tree_is
    (subst (λ (xs : List ℕ). IsExplainedByPlaces rules.profile rules.tolerance files.tree files.each xs)
    (sym c.as_slice.ensures.value) told))
