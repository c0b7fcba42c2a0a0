-- A letter, an owner and times, and the number of bytes.
use Rattle.sftp_treefile.proofs.Imports.{err_from_is_err_and}
use Rattle.sftp_treefile.proofs.Texts.Entries.{start_absent, start_unknown, start_owner_none, start_length_none}
use Rattle.sftp_treefile.proofs.Texts.Entries.{start_read}
use Rattle.sftp_treefile.proofs.pieces.file_start_at.Goals as goal

pub returns-in_err-letter-clause-none : goal.returns-in_err-letter-clause-none
returns-in_err-letter-clause-none c =
    let p = err_from_is_err_and c.from_residual.result c.from_residual.ensures.1 in
    rw p.1 (start_absent c.args.is_wide c.args.bytes.now c.in_err-letter.ensures.none)

pub returns-in_default-clause-none : goal.returns-in_default-clause-none
returns-in_default-clause-none c =
    start_unknown c.args.is_wide c.args.bytes.now c.in_ok-letter.rest.now c.in_ok-letter.letter
    c.in_ok-letter.ensures.found c.in_default.ensures.none

pub returns-in_err-owner-clause-none : goal.returns-in_err-owner-clause-none
returns-in_err-owner-clause-none c =
    let p = err_from_is_err_and c.from_residual-in_err-owner.result c.from_residual-in_err-owner.ensures.1 in
    let some = c.in-Some.ensures.some in
    rw p.1 (start_owner_none c.args.is_wide c.args.bytes.now c.in_ok-letter.rest.now c.in_ok-letter.letter
    c.in_ok-letter.ensures.found (c.in-Some.has_times, c.in-Some.is_long) (some.0, some.1) some.2
    c.in_err-owner.ensures.none)

pub returns-in_err-count-clause-none : goal.returns-in_err-count-clause-none
returns-in_err-count-clause-none c =
    let p = err_from_is_err_and c.from_residual-in_err-count.result c.from_residual-in_err-count.ensures.1 in
    let some = c.in-Some.ensures.some in
    rw p.1 (start_length_none c.args.is_wide c.args.bytes.now c.in_ok-letter.rest.now c.in_ok-letter.letter
    c.in_ok-letter.ensures.found (c.in-Some.has_times, c.in-Some.is_long) (some.0, some.1) some.2
    (c.in_ok-owner.owner, c.in_ok-owner.times) c.in_ok-owner.rest.now c.in_ok-owner.ensures.found
    c.in_err-count.ensures.none)

pub returns-clause-found : goal.returns-clause-found
returns-clause-found c =
    let some = c.in-Some.ensures.some in
    start_read c.args.is_wide c.args.bytes.now c.in_ok-letter.rest.now c.in_ok-letter.letter
    c.in_ok-letter.ensures.found (c.in-Some.has_times, c.in-Some.is_long) (some.0, some.1) some.2
    (c.in_ok-owner.owner, c.in_ok-owner.times) c.in_ok-owner.rest.now c.in_ok-owner.ensures.found
    c.in_ok-count.count c.in_ok-count.rest.now c.in_ok-count.ensures.found
