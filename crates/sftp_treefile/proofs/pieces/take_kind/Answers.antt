-- A file is told by its letter.
use Rattle.sftp_treefile.proofs.Imports.{sym, ◌∙◌, err_from_is_err_and, IsTimedKind, timed_text}
use Rattle.sftp_treefile.proofs.Texts.Front.{still_or, or_excused, file_kind_lacks, file_kind_taken, kept_lacks, kept_takes}
use Rattle.sftp_treefile.proofs.pieces.take_kind.Goals as goal

pub returns-in_err-owner-clause-none : goal.returns-in_err-owner-clause-none
returns-in_err-owner-clause-none g c =
    let m = c.fill.new.self in
    let p = err_from_is_err_and c.from_residual-in_err-owner.result c.from_residual-in_err-owner.ensures.1 in
    let letter = c.starts_file.ensures.yes c.if-not-starts_file.false in
    rw (p.1, p.2) (still_or _ _ _ c.in_err-owner.ensures.none
    (file_kind_lacks c.args.is_wide c.args.limits c.args.rows.now c.args.input.now m c.fill.ensures.same letter.0 letter.1
    (sym c.held.ensures ∙ letter.2) letter.3))

pub returns-clause-found : goal.returns-clause-found
returns-clause-found g c = file_kind_taken c.args.is_wide c.args.limits c.args.rows.now c.args.input.now c.fill.new.self
    c.take_file.new.input c.fill.ensures.same c.in_ok-owner.owner c.in_ok-owner.times c.in_ok-owner.bytes
    c.in_ok-owner.ensures.found

pub returns-in-Ok-clause-found : goal.returns-in-Ok-clause-found
returns-in-Ok-clause-found g c = kept_takes (IsTimedKind c.args.is_wide c.args.limits c.args.rows.now) timed_text
    c.args.input.now c.fill.new.self c.take_other_kind.new.input (c.in-Ok.taken.0, c.in-Ok.taken.1) c.fill.ensures.same
    c.in-Ok.ensures.found

pub returns-in-Err-clause-none : goal.returns-in-Err-clause-none
returns-in-Err-clause-none g c = or_excused _ _ _ (still_or _ _ _ c.in-Err.ensures.none
    (kept_lacks (IsTimedKind c.args.is_wide c.args.limits c.args.rows.now) timed_text c.args.input.now c.fill.new.self
    c.fill.ensures.same)) c.settle.ensures.excused
