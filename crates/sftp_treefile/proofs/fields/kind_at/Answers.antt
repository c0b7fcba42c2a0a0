-- A further name, a link or a directory, by its letter.
use Rattle.sftp_treefile.proofs.Imports.{inr, arith, err_from_is_err_and}
use Rattle.sftp_treefile.proofs.Texts.Heads.{or_fault}
use Rattle.sftp_treefile.proofs.Texts.Entries.{kind_absent, further_none, link_none, other_none}
use Rattle.sftp_treefile.proofs.fields.kind_at.Goals as goal

pub returns-in_err-letter-clause-none : goal.returns-in_err-letter-clause-none
returns-in_err-letter-clause-none c =
    let p = err_from_is_err_and c.from_residual.result c.from_residual.ensures.1 in
    rw p.1 (inr (kind_absent c.args.is_wide c.args.limits c.args.rows.now c.args.bytes.now c.in_err-letter.ensures.none))

pub returns-in_err-number-in-72-clause-none : goal.returns-in_err-number-in-72-clause-none
returns-in_err-number-in-72-clause-none c =
    let p = err_from_is_err_and c.from_residual-in_err-number-in-72.result c.from_residual-in_err-number-in-72.ensures.1 in
    rw p.1 (inr (further_none c.args.is_wide c.args.limits c.args.rows.now c.args.bytes.now c.in_ok-letter.rest.now
    c.in_ok-letter.letter c.in_ok-letter.ensures.found c.in-72.is c.in_err-number-in-72.ensures.none))

pub returns-in_err-target-in-76-clause-none : goal.returns-in_err-target-in-76-clause-none
returns-in_err-target-in-76-clause-none c =
    let p = err_from_is_err_and c.from_residual-in_err-target-in-76.result c.from_residual-in_err-target-in-76.ensures.1 in
    rw (p.1, p.2) (or_fault _ _ _ c.in_err-target-in-76.ensures.none (link_none c.args.is_wide c.args.limits c.args.rows.now
    c.args.bytes.now c.in_ok-letter.rest.now c.in_ok-letter.letter c.in_ok-letter.ensures.found c.in-76.is))

pub returns-in_err-owner-in_default-clause-none : goal.returns-in_err-owner-in_default-clause-none
returns-in_err-owner-in_default-clause-none c =
    let p = err_from_is_err_and c.from_residual-in_err-owner-in_default.result c.from_residual-in_err-owner-in_default.ensures.1 in
    rw p.1 (inr (other_none c.args.is_wide c.args.limits c.args.rows.now c.args.bytes.now c.in_ok-letter.rest.now
    c.in_ok-letter.letter c.in_ok-letter.ensures.found
    (c.requires c.in_ok-letter.letter c.in_ok-letter.rest.now c.in_ok-letter.ensures.found)
    (λ e. omega arith) (λ e. omega arith) c.in_err-owner-in_default.ensures.none))
