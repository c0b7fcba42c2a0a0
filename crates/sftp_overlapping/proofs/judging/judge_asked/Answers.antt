-- The judge of the profile is made by the profile, and the strict one is a session.
use Rattle.std.proofs.Common.{List, ℕ, Option, subst, sym}
use Rattle.std.specs.Result.{IfOk, IfErr}
use Rattle.sftp_tree.specs.Picture.{IsStart}
use Rattle.sftp_profile.specs.declared.profiles.Profile.{Profile as profile}
use Rattle.sftp_together.specs.Checks.{IsNoJudgement}
use Rattle.sftp_gathering.specs.Files.{SessionFiles}
use Rattle.sftp_gathering.specs.Gathered.{IsGathered}
use Rattle.sftp_overlapping.specs.Sets.{IsExplainedAsked, IsExplainedByPlaces}
use Rattle.sftp_overlapping.proofs.judging.judge_asked.Goals as goal

pub returns-in-None-clause-accepted : goal.returns-in-None-clause-accepted
returns-in-None-clause-accepted c =
    subst (λ (by : Option profile). IfOk c.judge.result (λ end. (each : List SessionFiles) → IsGathered each c.args.set
    → (known : List ℕ) → IsStart c.args.start known → IsExplainedAsked by c.args.rules.tolerance known each end))
    (sym c.in-None.is) c.judge.ensures.accepted

pub returns-in-None-clause-refused : goal.returns-in-None-clause-refused
returns-in-None-clause-refused c =
    subst (λ (by : Option profile). IfErr c.judge.result (λ fault. (IsNoJudgement fault → ⊥)
    → (each : List SessionFiles) → IsGathered each c.args.set → (known : List ℕ) → IsStart c.args.start known
    → IsExplainedByPlaces by c.args.rules.tolerance known each c.args.places.now → ⊥))
    (sym c.in-None.is) c.judge.ensures.refused

pub returns-in-Some-clause-accepted : goal.returns-in-Some-clause-accepted
returns-in-Some-clause-accepted c =
    subst (λ (by : Option profile). IfOk c.judge-in-Some.result (λ end. (each : List SessionFiles)
    → IsGathered each c.args.set → (known : List ℕ) → IsStart c.args.start known
    → IsExplainedAsked by c.args.rules.tolerance known each end))
    (sym c.in-Some.is) c.judge-in-Some.ensures.accepted

pub returns-in-Some-clause-refused : goal.returns-in-Some-clause-refused
returns-in-Some-clause-refused c =
    subst (λ (by : Option profile). IfErr c.judge-in-Some.result (λ fault. (IsNoJudgement fault → ⊥)
    → (each : List SessionFiles) → IsGathered each c.args.set → (known : List ℕ) → IsStart c.args.start known
    → IsExplainedByPlaces by c.args.rules.tolerance known each c.args.places.now → ⊥))
    (sym c.in-Some.is) c.judge-in-Some.ensures.refused
