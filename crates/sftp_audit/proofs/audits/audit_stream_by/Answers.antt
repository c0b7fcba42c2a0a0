-- What is said of the audit from the tree that was read, is said of its tree file.
use Rattle.sftp_audit.proofs.Imports.{err_from_is_err_and}
use Rattle.sftp_audit.proofs.streams.Starts.{by_from, none_by, first_by, told_by, judged_by}
use Rattle.sftp_audit.proofs.audits.audit_stream_by.Goals as goal

pub returns-in_err-end-clause-refused : goal.returns-in_err-end-clause-refused
returns-in_err-end-clause-refused g c =
    let p = err_from_is_err_and c.from_residual-in_err-end.result c.from_residual-in_err-end.ensures.1 in
    rw (p.1, p.2) (λ judged transcript new.
    none_by g.J.Judges.allowed (g.J.Judges.begun c.args.by) g.J.Judges.closed c.args.tree.now transcript
    c.in_ok-start.start c.in_ok-start.ensures.found (c.in_err-end.ensures.refused judged transcript new))

pub returns-in_err-end-clause-first : goal.returns-in_err-end-clause-first
returns-in_err-end-clause-first g c =
    let p = err_from_is_err_and c.from_residual-in_err-end.result c.from_residual-in_err-end.ensures.1 in
    rw (p.1, p.2) (λ judged transcript new.
    first_by g.J.Judges.allowed (g.J.Judges.begun c.args.by) g.J.Judges.closed c.args.tree.now transcript
    c.in_ok-start.start c.in_err-end.field-0.0 c.in_ok-start.ensures.found
    (c.in_err-end.ensures.first judged transcript new))

pub returns-in_err-end-clause-told : goal.returns-in_err-end-clause-told
returns-in_err-end-clause-told g c =
    let p = err_from_is_err_and c.from_residual-in_err-end.result c.from_residual-in_err-end.ensures.1 in
    rw (p.1, p.2) (λ judged transcript new.
    told_by g.J.Judges.allowed g.J.Judges.follows (g.J.Judges.begun c.args.by) c.args.tree.now transcript
    c.in_ok-start.start _ c.in_ok-start.ensures.found c.in_err-end.field-0.0
    (c.in_err-end.ensures.told judged transcript new))

pub returns-in_err-end-clause-judged : goal.returns-in_err-end-clause-judged
returns-in_err-end-clause-judged g c =
    let p = err_from_is_err_and c.from_residual-in_err-end.result c.from_residual-in_err-end.ensures.1 in
    rw (p.1, p.2)
    (judged_by c.in_ok-start.start c.args.tree.now c.in_err-end.field-0.0 c.in_ok-start.ensures.found
    c.in_err-end.ensures.treeless)

pub returns-clause-accepted : goal.returns-clause-accepted
returns-clause-accepted g c = λ transcript new.
    let told = c.in_ok-end.ensures.accepted transcript new in (
      c.in_ok-start.start,
      told.0,
      c.in_ok-end.field-0.tree,
      by_from g.J.Judges.allowed (g.J.Judges.begun c.args.by) g.J.Judges.closed c.args.tree.now transcript
          c.in_ok-start.start told.0 _ c.in_ok-start.ensures.found told.1,
      c.in_ok-tree.ensures,
      told.2,
    )
