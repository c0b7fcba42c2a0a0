-- The end of a session that was cut is the tree of the state that the auditor kept.
use Rattle.sftp_audit.proofs.Imports.{ap, ◌∙◌, length, recorded_exchanges, err_from_is_err_and}
use Rattle.sftp_audit.specs.Cuts.{unanswered_count}
use Rattle.sftp_audit.proofs.auditing.{unanswered-unsettled}
use Rattle.sftp_audit.proofs.streams.{feed-lost, feed-first, feed-answered, told-feed, accounts-cut}
use Rattle.sftp_audit.proofs.cuts.audit_cut_tree_by.Goals as goal

pub returns-in_err-auditor-clause-refused : goal.returns-in_err-auditor-clause-refused
returns-in_err-auditor-clause-refused g c =
    let p = err_from_is_err_and c.from_residual.result c.from_residual.ensures.1 in
    let e = c.in_err-auditor in
    rw (p.1, p.2) (λ judged transcript new.
    feed-lost g.J.Judges.allowed g.met.J.Judges.one_end g.J.Judges.closed (g.J.Judges.begun c.args.by c.args.start)
    transcript e.field-0.0 e.ensures.plain judged (e.ensures.stopped judged transcript new))

pub returns-in_err-auditor-clause-first : goal.returns-in_err-auditor-clause-first
returns-in_err-auditor-clause-first g c =
    let p = err_from_is_err_and c.from_residual.result c.from_residual.ensures.1 in
    let e = c.in_err-auditor in
    rw (p.1, p.2) (λ judged transcript new.
    feed-first g.J.Judges.allowed g.met.J.Judges.one_end g.J.Judges.closed (g.J.Judges.begun c.args.by c.args.start)
    transcript e.field-0.0 (e.ensures.stopped judged transcript new))

pub returns-in_err-auditor-clause-told : goal.returns-in_err-auditor-clause-told
returns-in_err-auditor-clause-told g c =
    let p = err_from_is_err_and c.from_residual.result c.from_residual.ensures.1 in
    let e = c.in_err-auditor in
    rw (p.1, p.2) (λ judged transcript new.
    told-feed g.J.Judges.allowed g.J.Judges.follows (g.J.Judges.begun c.args.by c.args.start) transcript
    c.begin_and_feed.new.follows e.field-0.0 (e.ensures.told judged transcript new))

pub returns-in_err-auditor-clause-answered : goal.returns-in_err-auditor-clause-answered
returns-in_err-auditor-clause-answered g c =
    let p = err_from_is_err_and c.from_residual.result c.from_residual.ensures.1 in
    let e = c.in_err-auditor in
    rw (p.1, p.2) (λ judged transcript new.
    feed-answered g.J.Judges.allowed (g.J.Judges.begun c.args.by c.args.start) transcript e.field-0.0
    (e.ensures.stopped judged transcript new))

pub returns-clause-accepted : goal.returns-clause-accepted
returns-clause-accepted g c = λ transcript new.
    let start = g.J.Judges.begun c.args.by c.args.start in
    let fed = c.in_ok-auditor.ensures.fed transcript new in (
      fed.events,
      accounts-cut g.J.Judges.allowed g.met.J.Judges.one_end g.J.Judges.closed start transcript _ _
          c.into_settled.result fed c.into_settled.ensures,
      fed.counted,
      c.kept-unsettled.ensures.count ∙ ap length fed.stands.kept,
      c.unanswered-unanswered.ensures ∙ ap unanswered_count fed.stands.kept
          ∙ unanswered-unsettled (recorded_exchanges fed.events),
    )
