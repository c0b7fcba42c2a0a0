-- Sessions that were gathered are those of the files, and where none were there are none.
use Rattle.std.proofs.lemmas.Result.{IfOk-weaker, IfErr-weaker}
use Rattle.sftp_overlapping.proofs.Saying.{sessions-lost}
use Rattle.sftp_overlapping.proofs.judging.judge_members.Goals as goal

pub returns-in-Ok-clause-accepted : goal.returns-in-Ok-clause-accepted
returns-in-Ok-clause-accepted g c =
    IfOk-weaker c.judge_gathered.result _ _ (λ end told each are known is.
    told each (c.in-Ok.ensures.gathered each are) known is) c.judge_gathered.ensures.accepted

pub returns-in-Ok-clause-refused : goal.returns-in-Ok-clause-refused
returns-in-Ok-clause-refused g c =
    IfErr-weaker c.judge_gathered.result _ _ (λ rejection refuses judged each are known is.
    refuses judged each (c.in-Ok.ensures.gathered each are) known is) c.judge_gathered.ensures.refused

pub returns-in-Err-clause-refused : goal.returns-in-Err-clause-refused
returns-in-Err-clause-refused g c = λ judged each are known is.
    sessions-lost c.args.rules.profile c.args.rules.tolerance known each c.args.places.now
    (c.in-Err.ensures.refused judged each are)
