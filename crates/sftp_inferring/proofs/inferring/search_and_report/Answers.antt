-- What is written is of the tree that was found, and the audit accepted the session with it.
use Rattle.sftp_verdicts.specs.Verdicts.{accounts_under}
use Rattle.sftp_inferring.proofs.InferredLaws.{inferred_ok, explained_by}
use Rattle.sftp_inferring.proofs.inferring.search_and_report.Goals as goal

pub returns-in-Ok-clause-inferred : goal.returns-in-Ok-clause-inferred
returns-in-Ok-clause-inferred g c = λ wanted.
    let how = c.args.how in
    inferred_ok (accounts_under how.by) c.args.options.now _ _ c.args.session.now c.in-Ok.found how.wants_end
    c.report-ending.result wanted
    (explained_by how.by how.wants_end c.args.session.now c.in-Ok.found c.in-Ok.ensures.strictly c.in-Ok.ensures.under)
    c.report-ending.ensures.written
