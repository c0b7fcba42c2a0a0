-- A file is its start and its bytes.
use Rattle.sftp_treefile.proofs.Imports.{arith, inr, err_from_is_err_and}
use Rattle.sftp_treefile.proofs.Texts.Front.{still_or, no_start, too_long, no_bytes, file_taken}
use Rattle.sftp_treefile.proofs.pieces.take_file.Goals as goal

pub returns-in_err-owner-clause-none : goal.returns-in_err-owner-clause-none
returns-in_err-owner-clause-none g c =
    let p = err_from_is_err_and c.from_residual.result c.from_residual.ensures.1 in
    rw (p.1, p.2) (still_or _ _ _ c.in_err-owner.ensures.none (no_start c.args.is_wide c.args.limits c.args.input.now))

pub returns-then-count-limits-clause-none : goal.returns-then-count-limits-clause-none
returns-then-count-limits-clause-none g c =
    inr (too_long c.args.is_wide c.args.limits c.args.input.now c.take_file_start.new.input c.in_ok-owner.owner
    c.in_ok-owner.times c.in_ok-owner.count c.in_ok-owner.ensures.found (omega (arith, c.if-count-limits.true)))

pub returns-in_err-bytes-clause-none : goal.returns-in_err-bytes-clause-none
returns-in_err-bytes-clause-none g c =
    let p = err_from_is_err_and c.from_residual-in_err-bytes.result c.from_residual-in_err-bytes.ensures.1 in
    rw (p.1, p.2) (still_or _ _ _ c.in_err-bytes.ensures.none (no_bytes c.args.is_wide c.args.limits c.args.input.now
    c.take_file_start.new.input c.in_ok-owner.owner c.in_ok-owner.times c.in_ok-owner.count c.in_ok-owner.ensures.found))

pub returns-clause-found : goal.returns-clause-found
returns-clause-found g c =
    file_taken c.args.is_wide c.args.limits c.args.input.now c.take_file_start.new.input c.in_ok-owner.owner
    c.in_ok-owner.times c.in_ok-owner.count c.in_ok-owner.ensures.found c.take_bytes.new.input c.in_ok-bytes.bytes
    c.in_ok-bytes.ensures.found (omega (arith, c.if-count-limits.false))
