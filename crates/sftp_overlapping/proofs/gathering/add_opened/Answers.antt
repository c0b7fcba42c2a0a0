-- The reader has read nothing yet, so the session is that of all bytes of the transcript.
use Rattle.std.proofs.Common.{ap}
use Rattle.std.proofs.lemmas.Result.{on_ok_weaker, IfErr-weaker}
use Rattle.sftp_verdicts.proofs.Fresh.{is_new}
use Rattle.sftp_overlapping.proofs.gathering.add_opened.Goals as goal

pub returns-in-Ok-clause-added : goal.returns-in-Ok-clause-added
returns-in-Ok-clause-added g c =
    on_ok_weaker c.add-added.result (λ told known is each old name.
    told known (is_new (g.F.Read.remaining c.args.transcript) _ _ _ c.in-Ok.records
    (ap g.F.Read.remaining c.new.ensures.inner) c.in-Ok.ensures.ok known is) each old name) c.add-added.ensures.added

pub returns-in-Ok-clause-refused : goal.returns-in-Ok-clause-refused
returns-in-Ok-clause-refused g c =
    IfErr-weaker c.add-added.result _ _ (λ error refuses judged known is each old name.
    refuses judged known (is_new (g.F.Read.remaining c.args.transcript) _ _ _ c.in-Ok.records
    (ap g.F.Read.remaining c.new.ensures.inner) c.in-Ok.ensures.ok known is) each old name) c.add-added.ensures.refused
