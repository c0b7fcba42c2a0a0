-- All entries, and then the judgement that no lower opening would do.
use Rattle.sftp_treefile.proofs.Imports.{inr, sym, ◌∙◌, err_from_is_err_and}
use Rattle.sftp_treefile.proofs.Texts.Front.{still_or, among_may, all_taken, rows_lack, lower_lacks}
use Rattle.sftp_treefile.proofs.entries.take_entries.Goals as goal

pub returns-in_err-entries-clause-none : goal.returns-in_err-entries-clause-none
returns-in_err-entries-clause-none g c =
    let p = err_from_is_err_and c.from_residual.result c.from_residual.ensures.1 in
    let none = rw c.is_wide-is_wide.ensures at c.in_err-entries.ensures.none in
    rw (p.1, p.2) (still_or _ _ _ none (rows_lack c.args.head.now c.args.input.now))

pub returns-in_err-entries-clause-may_fail : goal.returns-in_err-entries-clause-may_fail
returns-in_err-entries-clause-may_fail g c =
    let p = err_from_is_err_and c.from_residual.result c.from_residual.ensures.1 in
    rw (p.1, p.2) (among_may _ _ _ c.in_err-entries.ensures.number)

pub returns-then-not-is_lowest-clause-none : goal.returns-then-not-is_lowest-clause-none
returns-then-not-is_lowest-clause-none g c =
    let entries = c.in_ok-entries.entries in
    let found = rw c.is_wide-is_wide.ensures at c.in_ok-entries.ensures.found in
    inr (lower_lacks c.args.head.now c.args.input.now c.take_rows.new.input entries.rows.items entries.times.items found
    (rw c.new-times.ensures at (sym c.if-not-is_lowest.ensures)))

pub returns-clause-found : goal.returns-clause-found
returns-clause-found g c =
    let entries = c.in_ok-entries.entries in
    let found = rw c.is_wide-is_wide.ensures at c.in_ok-entries.ensures.found in
    rw (c.new.ensures, c.new-times.ensures) (all_taken c.args.head.now c.args.input.now c.take_rows.new.input
    entries.rows.items entries.times.items found (rw c.new-times.ensures at (sym c.is_lowest.ensures ∙ c.if-not-is_lowest.false)))
