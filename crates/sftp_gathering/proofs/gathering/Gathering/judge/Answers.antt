-- What is judged of the sessions is judged of their files.
use Rattle.std.proofs.Common.{sym, subst}
use Rattle.std.proofs.lemmas.Result.{IfOk-weaker, IfErr-weaker}
use Rattle.sftp_gathering.specs.Gathered.{Gathered, IsGathered}
use Rattle.sftp_gathering.proofs.Members.{set-explained, set-refused}
use Rattle.sftp_gathering.proofs.gathering.Gathering.judge.Goals as goal

pub returns-clause-accepted : goal.returns-clause-accepted
returns-clause-accepted g c =
    IfOk-weaker c.audit_set.result _ _ (λ end explains each is tree starts.
    set-explained g.J.Judges.allowed (g.J.Judges.begun c.args.by) c.args.tolerance c.args.start tree each _
    (subst (λ (x : Gathered). IsGathered each x) (sym c.self.view_is) is) starts g.J.Judges.closed end explains)
    c.audit_set.ensures.accepted

pub returns-clause-refused : goal.returns-clause-refused
returns-clause-refused g c =
    IfErr-weaker c.audit_set.result _ _ (λ fault refuses judged each is tree starts.
    set-refused g.J.Judges.allowed (g.J.Judges.begun c.args.by) c.args.tolerance c.args.start tree each _
    (subst (λ (x : Gathered). IsGathered each x) (sym c.self.view_is) is) starts c.args.places.now (refuses judged))
    c.audit_set.ensures.refused
