-- The head, the entries and nothing else: what was written, and nothing different.
use Rattle.sftp_treefile.proofs.Imports.{refl, arith, err_from_is_err_and, HasAhead}
use Rattle.sftp_treefile.proofs.Texts.Front.{in_may, excuse_only, tree_file_fits, no_head_taken, no_rows_taken, no_end_taken, file_taken_whole}
use Rattle.sftp_treefile.proofs.Texts.Files.{one_file}
use Rattle.sftp_treefile.proofs.Texts.Heads.{set_entries}
use Rattle.sftp_treefile.proofs.reading.read_rows_from.Goals as goal

pub take_entries-requires : goal.take_entries-requires
take_entries-requires g c =
    let head = c.in_ok-head.head in
    let fits = c.in_ok-head.ensures.found.0 in
    omega (arith, fits.count, set_entries head.opening head.limits fits.limits)

pub returns-in_err-head-clause-only : goal.returns-in_err-head-clause-only
returns-in_err-head-clause-only g c = λ bytes known file is.
    let p = err_from_is_err_and c.from_residual-in_err-head.result c.from_residual-in_err-head.ensures.1 in
    let ahead : HasAhead c.new-input.result bytes = rw (c.new-input.ensures, c.in_ok-buffer.ensures.empty, known) refl in
    rw (p.1, p.2) (excuse_only _ _ c.in_err-head.ensures.none (λ none. no_head_taken c.new-input.result bytes ahead none file is))

pub returns-in_err-rows-clause-only : goal.returns-in_err-rows-clause-only
returns-in_err-rows-clause-only g c = λ bytes known file is.
    let p = err_from_is_err_and c.from_residual-in_err-rows.result c.from_residual-in_err-rows.ensures.1 in
    let ahead : HasAhead c.new-input.result bytes = rw (c.new-input.ensures, c.in_ok-buffer.ensures.empty, known) refl in
    rw (p.1, p.2) (excuse_only _ _ c.in_err-rows.ensures.none (λ none. no_rows_taken c.new-input.result c.whole_head.new.input c.in_ok-head.head c.in_ok-head.ensures.found bytes ahead none file is))

pub returns-in_err-check_end-clause-only : goal.returns-in_err-check_end-clause-only
returns-in_err-check_end-clause-only g c = λ bytes known file is.
    let p = err_from_is_err_and c.from_residual-in_err-check_end.result c.from_residual-in_err-check_end.ensures.1 in
    let ahead : HasAhead c.new-input.result bytes = rw (c.new-input.ensures, c.in_ok-buffer.ensures.empty, known) refl in
    rw (p.1, p.2) (excuse_only _ _ c.in_err-check_end.ensures.more (λ more. no_end_taken c.new-input.result c.whole_head.new.input c.in_ok-head.head c.in_ok-head.ensures.found c.take_entries.new.input c.in_ok-rows.rows c.in_ok-rows.times c.in_ok-rows.ensures.found bytes ahead more file is))

pub returns-clause-fits : goal.returns-clause-fits
returns-clause-fits g c = tree_file_fits c.new-input.result c.whole_head.new.input c.in_ok-head.head c.in_ok-head.ensures.found c.take_entries.new.input c.in_ok-rows.rows c.in_ok-rows.times c.in_ok-rows.ensures.found

pub returns-clause-found : goal.returns-clause-found
returns-clause-found g c = λ bytes known.
    let ahead : HasAhead c.new-input.result bytes = rw (c.new-input.ensures, c.in_ok-buffer.ensures.empty, known) refl in
    file_taken_whole c.new-input.result c.whole_head.new.input c.in_ok-head.head c.in_ok-head.ensures.found c.take_entries.new.input c.in_ok-rows.rows c.in_ok-rows.times c.in_ok-rows.ensures.found bytes ahead c.in_ok-check_end.ensures.ended

pub returns-clause-only : goal.returns-clause-only
returns-clause-only g c = λ bytes known file is. one_file _ file bytes (returns-clause-found g c bytes known) is

pub returns-in_err-head-clause-may_fail : goal.returns-in_err-head-clause-may_fail
returns-in_err-head-clause-may_fail g c =
    let p = err_from_is_err_and c.from_residual-in_err-head.result c.from_residual-in_err-head.ensures.1 in
    rw (p.1, p.2) (in_may _ _ _ c.in_err-head.ensures.number)

pub returns-in_err-rows-clause-may_fail : goal.returns-in_err-rows-clause-may_fail
returns-in_err-rows-clause-may_fail g c =
    let p = err_from_is_err_and c.from_residual-in_err-rows.result c.from_residual-in_err-rows.ensures.1 in
    rw (p.1, p.2) c.in_err-rows.ensures.may_fail

pub returns-in_err-check_end-clause-may_fail : goal.returns-in_err-check_end-clause-may_fail
returns-in_err-check_end-clause-may_fail g c =
    let p = err_from_is_err_and c.from_residual-in_err-check_end.result c.from_residual-in_err-check_end.ensures.1 in
    rw (p.1, p.2) (in_may _ _ _ c.in_err-check_end.ensures.number)
