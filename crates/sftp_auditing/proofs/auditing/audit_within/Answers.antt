-- What bounds the transcript has its bytes, and a run that ends for lack of memory gives no verdict.
use Rattle.std.proofs.Common.{List, ℕ, Option, Result, sym, subst}
use Rattle.sftp_files.specs.declared.messages.Ending.{Ending}
use Rattle.sftp_files.specs.declared.messages.Failure.{Failure}
use Rattle.sftp_auditing.specs.Audits.{IsSaidAsked, IsStoredEnd}
use Rattle.sftp_auditing.proofs.auditing.audit_within.Goals as goal
use Rattle.sftp_auditing.proofs.auditing.audit_within.Goals.{in_default-2, in_default}

pub returns-clause-verdict : goal.returns-clause-verdict
returns-clause-verdict g c = λ bytes is.
    let Holds = λ (known : Option (List ℕ)) (result : Result Ending Failure).
    IsSaidAsked c.args.files.now.profile c.args.files.now.cuts
    (IsStoredEnd (g.K.Stores.stored c.args.out.now) (g.K.Stores.stored c.judge_and_report.new.out)) bytes known result in
    let known = g.F.Read.remaining c.args.transcript in
    let said = subst (λ (it : Option (List ℕ)). Holds it c.judge_and_report.result) c.in_ok-bounded.ensures
    (c.judge_and_report.ensures.verdict bytes is) in
    elim c.match-judge_and_report.branch [
      | in_default-2 w ↦ subst (Holds known) (sym w.result-is) (subst (Holds known) w.in-Err.is said)
      | in_default w ↦ subst (Holds known) (sym w.result-is) said
    ]
