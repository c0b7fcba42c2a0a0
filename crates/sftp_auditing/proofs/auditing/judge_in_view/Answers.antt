-- The transcript that is tracked has the bytes of the transcript.
use Rattle.std.proofs.Common.{List, ℕ, Option, subst, ap}
use Rattle.sftp_auditing.specs.Audits.{IsResultAsked}
use Rattle.sftp_auditing.proofs.auditing.judge_in_view.Goals as goal

pub returns : goal.returns
returns g c = λ tree is.
    subst (λ (known : Option (List ℕ)). IsResultAsked c.args.files.now.profile c.args.files.now.cuts tree known
    c.judge-judged.result.ended c.judge-judged.result.follows) (ap g.F.Read.remaining c.new-tracked.ensures) (c.judge-judged.ensures tree is)
