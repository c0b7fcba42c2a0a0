-- Four limits that are not all the usual ones.
use Rattle.sftp_treefile.proofs.Imports.{sym, err_from_is_err_and}
use Rattle.sftp_treefile.proofs.Texts.Heads.{no_limits, usual_none}
use Rattle.sftp_treefile.proofs.heads.raised_limits_at.Goals as goal

pub returns-in_err-limits-clause-none : goal.returns-in_err-limits-clause-none
returns-in_err-limits-clause-none c =
    let p = err_from_is_err_and c.from_residual.result c.from_residual.ensures.1 in
    rw p.1 (no_limits c.args.bytes.now c.in_err-limits.ensures.none)

pub returns-then-not-are_own-clause-none : goal.returns-then-not-are_own-clause-none
returns-then-not-are_own-clause-none c =
    usual_none c.args.bytes.now c.in_ok-limits.rest.now c.in_ok-limits.limits c.in_ok-limits.ensures.found
    (sym c.if-not-are_own.ensures)
