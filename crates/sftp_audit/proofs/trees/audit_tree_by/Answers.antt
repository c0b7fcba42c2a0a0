-- What is lost while events are fed is lost to every run, and so is a session that lacks a reply at its end.
use Rattle.sftp_audit.proofs.Imports.{err_from_is_err_and}
use Rattle.sftp_audit.proofs.streams.{no_run, feed-lost, feed-first, end-lost, end-first, accounts-fed}
use Rattle.sftp_audit.proofs.streams.{told-feed, told-end, end-treeless}
use Rattle.sftp_audit.proofs.trees.audit_tree_by.Goals as goal

pub returns-in_err-auditor-clause-refused : goal.returns-in_err-auditor-clause-refused
returns-in_err-auditor-clause-refused g c =
    let p = err_from_is_err_and c.from_residual.result c.from_residual.ensures.1 in
    let e = c.in_err-auditor in
    rw (p.1, p.2) (λ judged transcript new.
    let start = g.J.Judges.begun c.args.by c.args.start in
    no_run g.J.Judges.allowed g.met.J.Judges.one_end g.J.Judges.closed start transcript
    (feed-lost g.J.Judges.allowed g.met.J.Judges.one_end g.J.Judges.closed start transcript e.field-0.0 e.ensures.plain
    judged (e.ensures.stopped judged transcript new)))

pub returns-in_err-auditor-clause-first : goal.returns-in_err-auditor-clause-first
returns-in_err-auditor-clause-first g c =
    let p = err_from_is_err_and c.from_residual.result c.from_residual.ensures.1 in
    let e = c.in_err-auditor in
    rw (p.1, p.2) (λ judged transcript new.
    feed-first g.J.Judges.allowed g.met.J.Judges.one_end g.J.Judges.closed (g.J.Judges.begun c.args.by c.args.start)
    transcript e.field-0.0 (e.ensures.stopped judged transcript new))

pub returns-in_err-auditor-clause-told : goal.returns-in_err-auditor-clause-told
returns-in_err-auditor-clause-told g c =
    let p = err_from_is_err_and c.from_residual.result c.from_residual.ensures.1 in
    let e = c.in_err-auditor in
    rw (p.1, p.2) (λ judged transcript new.
    told-feed g.J.Judges.allowed g.J.Judges.follows (g.J.Judges.begun c.args.by c.args.start) transcript
    c.begin_and_feed.new.follows e.field-0.0 (e.ensures.told judged transcript new))

pub returns-in_err-tree-clause-refused : goal.returns-in_err-tree-clause-refused
returns-in_err-tree-clause-refused g c =
    let p = err_from_is_err_and c.from_residual-in_err-tree.result c.from_residual-in_err-tree.ensures.1 in
    rw (p.1, p.2) (λ judged transcript new.
    let start = g.J.Judges.begun c.args.by c.args.start in
    let fed = c.in_ok-auditor.ensures.fed transcript new in
    end-lost g.J.Judges.allowed g.met.J.Judges.one_end g.J.Judges.closed start transcript _ _ c.in_err-tree.field-0.0
    fed (c.in_err-tree.ensures.unanswered start fed.events fed.stands))

pub returns-in_err-tree-clause-first : goal.returns-in_err-tree-clause-first
returns-in_err-tree-clause-first g c =
    let p = err_from_is_err_and c.from_residual-in_err-tree.result c.from_residual-in_err-tree.ensures.1 in
    rw (p.1, p.2) (λ judged transcript new.
    let start = g.J.Judges.begun c.args.by c.args.start in
    let fed = c.in_ok-auditor.ensures.fed transcript new in
    end-first g.J.Judges.allowed g.met.J.Judges.one_end g.J.Judges.closed start transcript _ _ c.in_err-tree.field-0.0
    fed (c.in_err-tree.ensures.unanswered start fed.events fed.stands))

pub returns-in_err-tree-clause-told : goal.returns-in_err-tree-clause-told
returns-in_err-tree-clause-told g c =
    let p = err_from_is_err_and c.from_residual-in_err-tree.result c.from_residual-in_err-tree.ensures.1 in
    rw (p.1, p.2) (λ judged transcript new.
    let start = g.J.Judges.begun c.args.by c.args.start in
    let fed = c.in_ok-auditor.ensures.fed transcript new in
    told-end g.J.Judges.allowed g.J.Judges.follows start transcript fed.events _ c.in_err-tree.field-0.0
    c.in_ok-auditor.ensures.followed (c.in_err-tree.ensures.unanswered start fed.events fed.stands))

pub returns-in_err-tree-clause-treeless : goal.returns-in_err-tree-clause-treeless
returns-in_err-tree-clause-treeless g c =
    let p = err_from_is_err_and c.from_residual-in_err-tree.result c.from_residual-in_err-tree.ensures.1 in
    rw (p.1, p.2) (end-treeless c.in_err-tree.field-0.0)

pub returns-clause-accepted : goal.returns-clause-accepted
returns-clause-accepted g c = λ transcript new.
    let start = g.J.Judges.begun c.args.by c.args.start in
    let fed = c.in_ok-auditor.ensures.fed transcript new in (
      fed.events,
      accounts-fed g.J.Judges.allowed g.met.J.Judges.one_end g.J.Judges.closed start transcript _ _
          c.in_ok-tree.tree fed (c.in_ok-tree.ensures.ended start fed.events fed.stands),
      fed.counted,
    )
