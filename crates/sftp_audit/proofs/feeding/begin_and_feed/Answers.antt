-- The events are fed to an auditor that stands for none.
use Rattle.sftp_audit.proofs.feeding.begin_and_feed.Goals as goal

pub returns-in-Err-clause-stopped : goal.returns-in-Err-clause-stopped
returns-in-Err-clause-stopped g c = λ judged transcript new.
    c.in-Err.ensures.stopped judged (g.J.Judges.begun c.args.by c.args.start) transcript new
    c.in_ok-auditor.ensures.stands

pub returns-in-Err-clause-told : goal.returns-in-Err-clause-told
returns-in-Err-clause-told g c = λ judged transcript new.
    rw c.follows.ensures
    (c.in-Err.ensures.told judged (g.J.Judges.begun c.args.by c.args.start) transcript new
    c.in_ok-auditor.ensures.stands)

pub returns-in-Ok-clause-fed : goal.returns-in-Ok-clause-fed
returns-in-Ok-clause-fed g c = λ transcript new.
    c.in-Ok.ensures.fed (g.J.Judges.begun c.args.by c.args.start) transcript new c.in_ok-auditor.ensures.stands
