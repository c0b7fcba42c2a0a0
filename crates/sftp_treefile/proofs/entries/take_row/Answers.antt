-- An entry is its path and its kind.
use Rattle.sftp_treefile.proofs.Imports.{◌≤◌, arith, contents_length, err_from_is_err_and}
use Rattle.sftp_treefile.proofs.Texts.Front.{still_or, or_excused, path_lacks, kind_lacks, entry_taken}
use Rattle.sftp_treefile.proofs.entries.take_row.Goals as goal

pub returns-in-Err-clause-none : goal.returns-in-Err-clause-none
returns-in-Err-clause-none g c =
    or_excused _ _ _ (still_or _ _ _ c.in-Err.ensures.none
    (path_lacks c.args.is_wide c.args.limits c.args.entries.now.rows.items c.args.input.now)) c.settle.ensures.excused

pub returns-in_err-kind-clause-none : goal.returns-in_err-kind-clause-none
returns-in_err-kind-clause-none g c =
    let rows = c.args.entries.now.rows.items in
    let within : contents_length rows ≤ c.args.limits.total_bytes = omega (arith, c.requires.total, c.requires.within) in
    let p = err_from_is_err_and c.from_residual.result c.from_residual.ensures.1 in
    let none = rw (c.as_slice.ensures.value, c.with_room-room.ensures, c.requires.total) at c.in_err-kind.ensures.none in
    rw (p.1, p.2) (still_or _ _ _ none (kind_lacks c.args.is_wide c.args.limits rows c.args.input.now within
    c.take_path.new.input c.take_path.new.input c.in-Ok.taken.0 c.in-Ok.ensures.found))

pub returns-clause-found : goal.returns-clause-found
returns-clause-found g c =
    let rows = c.args.entries.now.rows.items in
    let within : contents_length rows ≤ c.args.limits.total_bytes = omega (arith, c.requires.total, c.requires.within) in
    let found = rw (c.as_slice.ensures.value, c.with_room-room.ensures, c.requires.total) at c.in_ok-kind.ensures.found in
    entry_taken c.args.is_wide c.args.limits rows c.args.input.now within c.take_path.new.input c.take_kind.new.input
    c.in-Ok.taken.0 c.in-Ok.ensures.found c.in_ok-kind.kind c.in_ok-kind.times found
