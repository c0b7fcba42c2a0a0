-- What is judged of the files is said of them.
use Rattle.std.proofs.lemmas.Result.{IfOk-weaker}
use Rattle.sftp_overlapping.specs.Sets.{IsStoredEnd}
use Rattle.sftp_overlapping.proofs.Saying.{accepted-said, rejected-said, accepted_status, rejected_status}
use Rattle.sftp_overlapping.proofs.auditing.audit_files.Goals as goal

pub returns-in-Ok-clause-verdict : goal.returns-in-Ok-clause-verdict
returns-in-Ok-clause-verdict g c = λ files are.
    accepted-said c.args.rules.tolerance
    (IsStoredEnd (g.K.Stores.stored c.args.out.now) (g.K.Stores.stored c.accept-ending.new.out)) files
    c.args.rules.profile _ c.accept-ending.result c.accept-ending.ensures.ok c.accept-ending.ensures.err
    (c.in-Ok.ensures.accepted files are)

pub returns-in-Ok-clause-status : goal.returns-in-Ok-clause-status
returns-in-Ok-clause-status g c =
    accepted_status c.accept-ending.result
    (IfOk-weaker c.accept-ending.result _ _ (λ ending told. told.0) c.accept-ending.ensures.ok)

pub returns-in-Err-clause-verdict : goal.returns-in-Err-clause-verdict
returns-in-Err-clause-verdict g c = λ files are.
    rejected-said c.args.rules.tolerance
    (IsStoredEnd (g.K.Stores.stored c.args.out.now) (g.K.Stores.stored c.args.out.now)) files
    c.args.rules.profile c.in-Err.rejection c.reject.result c.reject.ensures
    (λ judged. c.in-Err.ensures.refused judged files are)

pub returns-in-Err-clause-status : goal.returns-in-Err-clause-status
returns-in-Err-clause-status g c = rejected_status c.in-Err.rejection c.reject.result c.reject.ensures
