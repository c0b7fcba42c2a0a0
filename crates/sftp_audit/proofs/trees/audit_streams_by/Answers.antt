-- What is said of the audit from the tree that was read, is said of the bytes of its source.
use Rattle.sftp_audit.proofs.Imports.{refl, err_from_is_err_and, IfOk-weaker, IfErr-weaker}
use Rattle.sftp_audit.proofs.streams.Starts.{by_from, none_by, first_by, told_by, unjudged_too, judged_read}
use Rattle.sftp_audit.proofs.streams.Starts.{excused_read, unjudged_unread, first_unread, told_unread, judged_unread}
use Rattle.sftp_audit.proofs.streams.Starts.{excused_unread}
use Rattle.sftp_audit.proofs.trees.audit_streams_by.Goals as goal

-- ---- the tree was read

pub returns-clause-accepted : goal.returns-clause-accepted
returns-clause-accepted g c =
    let start = c.in_ok-start.start in
    IfOk-weaker c.audit_tree_by.result _ _ (λ ended accepted bytes transcript left new.
    let told = accepted transcript new in (
      start,
      told.0,
      by_from g.J.Judges.allowed (g.J.Judges.begun c.args.by) g.J.Judges.closed bytes transcript start told.0
          ended.tree (c.in_ok-start.ensures.found bytes left) told.1,
      told.2,
    )) c.audit_tree_by.ensures.accepted

pub returns-clause-refused : goal.returns-clause-refused
returns-clause-refused g c =
    IfErr-weaker c.audit_tree_by.result _ _ (λ e refused judged bytes transcript left new.
    none_by g.J.Judges.allowed (g.J.Judges.begun c.args.by) g.J.Judges.closed bytes transcript c.in_ok-start.start
    (c.in_ok-start.ensures.found bytes left) (refused (λ none. judged (unjudged_too e none)) transcript new))
    c.audit_tree_by.ensures.refused

pub returns-clause-first : goal.returns-clause-first
returns-clause-first g c =
    IfErr-weaker c.audit_tree_by.result _ _ (λ e first judged bytes transcript left new.
    first_by g.J.Judges.allowed (g.J.Judges.begun c.args.by) g.J.Judges.closed bytes transcript c.in_ok-start.start
    e (c.in_ok-start.ensures.found bytes left) (first (λ none. judged (unjudged_too e none)) transcript new))
    c.audit_tree_by.ensures.first

pub returns-clause-told : goal.returns-clause-told
returns-clause-told g c =
    IfErr-weaker c.audit_tree_by.result _ _ (λ e told judged bytes transcript left new.
    told_by g.J.Judges.allowed g.J.Judges.follows (g.J.Judges.begun c.args.by) bytes transcript c.in_ok-start.start
    c.audit_tree_by.new.follows (c.in_ok-start.ensures.found bytes left) e
    (told (λ none. judged (unjudged_too e none)) transcript new))
    c.audit_tree_by.ensures.told

pub returns-clause-judged : goal.returns-clause-judged
returns-clause-judged g c = λ bytes left.
    judged_read c.audit_tree_by.result c.in_ok-start.start bytes (c.in_ok-start.ensures.found bytes left)
    c.audit_tree_by.ensures.treeless

pub returns-clause-may_fail : goal.returns-clause-may_fail
returns-clause-may_fail g c = λ sound.
    excused_read g.T.Source.may_fail g.R.Source.may_fail c.audit_tree_by.result c.audit_tree_by.ensures.treeless
    (c.audit_tree_by.ensures.may_fail sound)

-- ---- it was not

pub returns-in_err-start-clause-refused : goal.returns-in_err-start-clause-refused
returns-in_err-start-clause-refused g c =
    let p = err_from_is_err_and c.from_residual.result c.from_residual.ensures.1 in
    rw (p.1, p.2) (λ judged bytes transcript left new start events end told.
    judged (unjudged_unread c.in_err-start.field-0.0 (c.in_err-start.ensures.only bytes left start told.start_is)))

pub returns-in_err-start-clause-first : goal.returns-in_err-start-clause-first
returns-in_err-start-clause-first g c =
    let p = err_from_is_err_and c.from_residual.result c.from_residual.ensures.1 in
    rw (p.1, p.2) (λ judged bytes transcript left new.
    first_unread g.J.Judges.allowed (g.J.Judges.begun c.args.by) bytes transcript c.in_err-start.field-0.0 judged
    (c.in_err-start.ensures.only bytes left))

pub returns-in_err-start-clause-told : goal.returns-in_err-start-clause-told
returns-in_err-start-clause-told g c =
    let p = err_from_is_err_and c.from_residual.result c.from_residual.ensures.1 in
    rw (p.1, p.2) (λ judged bytes transcript left new.
    told_unread g.J.Judges.allowed g.J.Judges.follows (g.J.Judges.begun c.args.by) bytes transcript _
    c.in_err-start.field-0.0 refl)

pub returns-in_err-start-clause-judged : goal.returns-in_err-start-clause-judged
returns-in_err-start-clause-judged g c =
    let p = err_from_is_err_and c.from_residual.result c.from_residual.ensures.1 in
    rw (p.1, p.2) (λ bytes left.
    judged_unread bytes c.in_err-start.field-0.0 (c.in_err-start.ensures.only bytes left))

pub returns-in_err-start-clause-may_fail : goal.returns-in_err-start-clause-may_fail
returns-in_err-start-clause-may_fail g c =
    let p = err_from_is_err_and c.from_residual.result c.from_residual.ensures.1 in
    rw (p.1, p.2) (λ sound.
    excused_unread g.T.Source.may_fail g.R.Source.may_fail c.in_err-start.field-0.0 c.in_err-start.ensures.may_fail)
