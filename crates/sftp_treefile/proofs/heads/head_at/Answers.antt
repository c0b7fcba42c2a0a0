-- The head: its front, the limits, and what it says of the root.
use Rattle.sftp_treefile.proofs.Imports.{inr, err_from_is_err_and}
use Rattle.sftp_treefile.proofs.Texts.Heads.{or_fault}
use Rattle.sftp_treefile.proofs.Texts.Heads.{front_none, limits_none, root_none, head_read}
use Rattle.sftp_treefile.proofs.heads.head_at.Goals as goal

pub returns-in_err-front-clause-none : goal.returns-in_err-front-clause-none
returns-in_err-front-clause-none c =
    let p = err_from_is_err_and c.from_residual.result c.from_residual.ensures.1 in
    rw (p.1, p.2) (or_fault _ _ _ c.in_err-front.ensures.none (front_none c.args.bytes.now))

pub returns-in_err-limits-clause-none : goal.returns-in_err-limits-clause-none
returns-in_err-limits-clause-none c =
    let p = err_from_is_err_and c.from_residual-in_err-limits.result c.from_residual-in_err-limits.ensures.1 in
    rw p.1 (inr (limits_none c.args.bytes.now c.in_ok-front.rest.now c.in_ok-front.front c.in_ok-front.ensures.found c.in_err-limits.ensures.none))

pub returns-in_err-count-clause-none : goal.returns-in_err-count-clause-none
returns-in_err-count-clause-none c =
    let p = err_from_is_err_and c.from_residual-in_err-count.result c.from_residual-in_err-count.ensures.1 in
    rw p.1 (inr (root_none c.args.bytes.now c.in_ok-front.rest.now c.in_ok-front.front c.in_ok-front.ensures.found c.in_ok-limits.rest.now c.in_ok-limits.limits c.in_ok-limits.ensures.found c.in_err-count.ensures.none))

pub returns-clause-found : goal.returns-clause-found
returns-clause-found c = head_read c.args.bytes.now c.in_ok-front.rest.now c.in_ok-front.front c.in_ok-front.ensures.found
    c.in_ok-limits.rest.now c.in_ok-limits.limits c.in_ok-limits.ensures.found c.in_ok-count.rest.now
    c.in_ok-count.count (c.in_ok-count.root, c.in_ok-count.root_times) c.in_ok-count.ensures.found
