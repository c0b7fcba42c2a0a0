-- The limits, one after the other.
use Rattle.sftp_treefile.proofs.Imports.{err_from_is_err_and}
use Rattle.sftp_treefile.proofs.Texts.Heads.{wide_entries_none, wide_file_none, wide_read_none, wide_handles_none}
use Rattle.sftp_treefile.proofs.Texts.Heads.{wide_total_none, wide_limits_read}
use Rattle.sftp_treefile.proofs.heads.wide_limits_at.Goals as goal

pub returns-in_err-entries-clause-none : goal.returns-in_err-entries-clause-none
returns-in_err-entries-clause-none c =
    let p = err_from_is_err_and c.from_residual.result c.from_residual.ensures.1 in
    let none = rw (c.least_limits-least.ensures, c.most_limits-most.ensures) at c.in_err-entries.ensures.none in
    rw p.1 (wide_entries_none c.args.bytes.now none)

pub returns-in_err-file_bytes-clause-none : goal.returns-in_err-file_bytes-clause-none
returns-in_err-file_bytes-clause-none c =
    let p = err_from_is_err_and c.from_residual-in_err-file_bytes.result c.from_residual-in_err-file_bytes.ensures.1 in
    let first = rw (c.least_limits-least.ensures, c.most_limits-most.ensures) at c.in_ok-entries.ensures.found in
    let none = rw (c.least_limits-least.ensures, c.most_limits-most.ensures) at c.in_err-file_bytes.ensures.none in
    rw p.1 (wide_file_none c.args.bytes.now c.in_ok-entries.rest.now c.in_ok-entries.entries first none)

pub returns-in_err-read_bytes-clause-none : goal.returns-in_err-read_bytes-clause-none
returns-in_err-read_bytes-clause-none c =
    let p = err_from_is_err_and c.from_residual-in_err-read_bytes.result c.from_residual-in_err-read_bytes.ensures.1 in
    let first = rw (c.least_limits-least.ensures, c.most_limits-most.ensures) at c.in_ok-entries.ensures.found in
    let second = rw (c.least_limits-least.ensures, c.most_limits-most.ensures) at c.in_ok-file_bytes.ensures.found in
    let none = rw (c.least_limits-least.ensures, c.most_limits-most.ensures) at c.in_err-read_bytes.ensures.none in
    rw p.1 (wide_read_none c.args.bytes.now c.in_ok-entries.rest.now c.in_ok-entries.entries first
    c.in_ok-file_bytes.rest.now c.in_ok-file_bytes.file_bytes second none)

pub returns-in_err-open_handles-clause-none : goal.returns-in_err-open_handles-clause-none
returns-in_err-open_handles-clause-none c =
    let p = err_from_is_err_and c.from_residual-in_err-open_handles.result c.from_residual-in_err-open_handles.ensures.1 in
    let first = rw (c.least_limits-least.ensures, c.most_limits-most.ensures) at c.in_ok-entries.ensures.found in
    let second = rw (c.least_limits-least.ensures, c.most_limits-most.ensures) at c.in_ok-file_bytes.ensures.found in
    let third = rw (c.least_limits-least.ensures, c.most_limits-most.ensures) at c.in_ok-read_bytes.ensures.found in
    let none = rw (c.least_limits-least.ensures, c.most_limits-most.ensures) at c.in_err-open_handles.ensures.none in
    rw p.1 (wide_handles_none c.args.bytes.now c.in_ok-entries.rest.now c.in_ok-entries.entries first
    c.in_ok-file_bytes.rest.now c.in_ok-file_bytes.file_bytes second c.in_ok-read_bytes.rest.now
    c.in_ok-read_bytes.read_bytes third none)

pub returns-in_err-total_bytes-clause-none : goal.returns-in_err-total_bytes-clause-none
returns-in_err-total_bytes-clause-none c =
    let p = err_from_is_err_and c.from_residual-in_err-total_bytes.result c.from_residual-in_err-total_bytes.ensures.1 in
    let first = rw (c.least_limits-least.ensures, c.most_limits-most.ensures) at c.in_ok-entries.ensures.found in
    let second = rw (c.least_limits-least.ensures, c.most_limits-most.ensures) at c.in_ok-file_bytes.ensures.found in
    let third = rw (c.least_limits-least.ensures, c.most_limits-most.ensures) at c.in_ok-read_bytes.ensures.found in
    let fourth = rw (c.least_limits-least.ensures, c.most_limits-most.ensures) at c.in_ok-open_handles.ensures.found in
    let none = rw (c.least_limits-least.ensures, c.most_limits-most.ensures) at c.in_err-total_bytes.ensures.none in
    rw p.1 (wide_total_none c.args.bytes.now c.in_ok-entries.rest.now c.in_ok-entries.entries first
    c.in_ok-file_bytes.rest.now c.in_ok-file_bytes.file_bytes second c.in_ok-read_bytes.rest.now
    c.in_ok-read_bytes.read_bytes third c.in_ok-open_handles.rest.now c.in_ok-open_handles.open_handles fourth none)

pub returns-clause-found : goal.returns-clause-found
returns-clause-found c =
    let first = rw (c.least_limits-least.ensures, c.most_limits-most.ensures) at c.in_ok-entries.ensures.found in
    let second = rw (c.least_limits-least.ensures, c.most_limits-most.ensures) at c.in_ok-file_bytes.ensures.found in
    let third = rw (c.least_limits-least.ensures, c.most_limits-most.ensures) at c.in_ok-read_bytes.ensures.found in
    let fourth = rw (c.least_limits-least.ensures, c.most_limits-most.ensures) at c.in_ok-open_handles.ensures.found in
    let fifth = rw (c.least_limits-least.ensures, c.most_limits-most.ensures) at c.in_ok-total_bytes.ensures.found in
    wide_limits_read c.args.bytes.now c.in_ok-entries.rest.now c.in_ok-entries.entries first c.in_ok-file_bytes.rest.now
    c.in_ok-file_bytes.file_bytes second c.in_ok-read_bytes.rest.now c.in_ok-read_bytes.read_bytes third
    c.in_ok-open_handles.rest.now c.in_ok-open_handles.open_handles fourth c.in_ok-total_bytes.rest.now
    c.in_ok-total_bytes.total_bytes fifth
