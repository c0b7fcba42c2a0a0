-- Two numbers, not both of which are 0.
use Rattle.sftp_treefile.proofs.Imports.{sym, ◌∙◌, err_from_is_err_and}
use Rattle.sftp_treefile.proofs.Texts.Entries.{accessed_none, modified_none, zeros_none, times_read}
use Rattle.sftp_treefile.proofs.fields.known_times_at.Goals as goal

pub returns-in_err-accessed-clause-none : goal.returns-in_err-accessed-clause-none
returns-in_err-accessed-clause-none c =
    let p = err_from_is_err_and c.from_residual.result c.from_residual.ensures.1 in
    rw p.1 (accessed_none c.args.bytes.now c.in_err-accessed.ensures.none)

pub returns-in_err-modified-clause-none : goal.returns-in_err-modified-clause-none
returns-in_err-modified-clause-none c =
    let p = err_from_is_err_and c.from_residual-in_err-modified.result c.from_residual-in_err-modified.ensures.1 in
    rw p.1 (modified_none c.args.bytes.now c.in_ok-accessed.rest.now c.in_ok-accessed.accessed
    c.in_ok-accessed.ensures.found c.in_err-modified.ensures.none)

pub returns-then-not-are_known-clause-none : goal.returns-then-not-are_known-clause-none
returns-then-not-are_known-clause-none c =
    zeros_none c.args.bytes.now c.in_ok-accessed.rest.now c.in_ok-modified.rest.now c.in_ok-accessed.accessed
    c.in_ok-modified.modified c.in_ok-accessed.ensures.found c.in_ok-modified.ensures.found
    (sym c.if-not-are_known.ensures)

pub returns-clause-found : goal.returns-clause-found
returns-clause-found c =
    times_read c.args.bytes.now c.in_ok-accessed.rest.now c.in_ok-modified.rest.now c.in_ok-accessed.accessed
    c.in_ok-modified.modified c.in_ok-accessed.ensures.found c.in_ok-modified.ensures.found
    (sym c.are_known.ensures ∙ c.if-not-are_known.false)
