-- The judge of the profile is made by the profile, and the strict one is a session.
use Rattle.std.proofs.Common.{Option, subst, sym}
use Rattle.sftp_profile.specs.declared.profiles.Profile.{Profile as profile}
use Rattle.sftp_auditing.specs.Audits.{IsResultAsked}
use Rattle.sftp_auditing.proofs.auditing.judge.Goals as goal

pub returns-in-None : goal.returns-in-None
returns-in-None g c = λ tree is.
    subst (λ (by : Option profile). IsResultAsked by c.args.cuts tree (g.F.Read.remaining c.args.transcript)
    c.judge_by.result.ended c.judge_by.result.follows) (sym c.in-None.is) (c.judge_by.ensures tree is)

pub returns-in-Some : goal.returns-in-Some
returns-in-Some g c = λ tree is.
    subst (λ (by : Option profile). IsResultAsked by c.args.cuts tree (g.F.Read.remaining c.args.transcript)
    c.judge_by-in-Some.result.ended c.judge_by-in-Some.result.follows) (sym c.in-Some.is) (c.judge_by-in-Some.ensures tree is)
