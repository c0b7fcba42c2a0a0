-- Where the first exchange is missing, none waits.
use Rattle.sftp_audit.proofs.Imports.{sym}
use Rattle.sftp_audit.proofs.auditing.Standing.{at_view, explained-settled, lacks_reply}
use Rattle.sftp_audit.proofs.auditor.Auditor.end.Goals as goal

pub returns-in-Some-first-clause-unanswered : goal.returns-in-Some-first-clause-unanswered
returns-in-Some-first-clause-unanswered g c = λ start events stands.
    let at = at_view g.J.Judges.allowed start events c.args.self _ c.self.view_is stands in
    lacks_reply g.J.Judges.allowed start events _ c.in-Some-first.exchange.now at (sym c.in-Some-first.ensures)

pub returns-in-None-clause-ended : goal.returns-in-None-clause-ended
returns-in-None-clause-ended g c = λ start events stands.
    let at = at_view g.J.Judges.allowed start events c.args.self _ c.self.view_is stands in
    (c.self.inside.judge, explained-settled g.J.Judges.allowed start events _ at (sym c.in-None.ensures), c.into_tree.ensures)
