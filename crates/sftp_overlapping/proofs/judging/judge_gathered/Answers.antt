-- The sessions are judged from the tree of the file.
use Rattle.std.proofs.lemmas.Result.{err_from_is_err_and}
use Rattle.sftp_overlapping.proofs.Saying.{start-lost}
use Rattle.sftp_overlapping.proofs.judging.judge_gathered.Goals as goal

pub returns-in_err-start-clause-refused : goal.returns-in_err-start-clause-refused
returns-in_err-start-clause-refused g c =
    let p = err_from_is_err_and c.from_residual.result c.from_residual.ensures.1 in
    rw (p.1, p.2) (λ judged each is known has.
    start-lost c.args.rules.profile c.args.rules.tolerance known each c.args.places.now
    (c.in_err-start.ensures.refused judged known has))

pub returns-in-Ok-clause-accepted : goal.returns-in-Ok-clause-accepted
returns-in-Ok-clause-accepted g c = λ each is known has.
    c.in-Ok.ensures.accepted each is known (c.in_ok-start.ensures.start known has)

pub returns-in-Err-clause-refused : goal.returns-in-Err-clause-refused
returns-in-Err-clause-refused g c = λ judged each is known has.
    c.in-Err.ensures.refused (c.rejection_of_fault.ensures judged) each is known
    (c.in_ok-start.ensures.start known has)
