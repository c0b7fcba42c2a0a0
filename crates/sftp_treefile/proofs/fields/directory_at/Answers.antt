-- A letter, and then an owner and times.
use Rattle.sftp_treefile.proofs.Imports.{err_from_is_err_and}
use Rattle.sftp_treefile.proofs.Texts.Entries.{directory_absent, directory_unknown, directory_none, directory_read}
use Rattle.sftp_treefile.proofs.fields.directory_at.Goals as goal

pub returns-in_err-letter-clause-none : goal.returns-in_err-letter-clause-none
returns-in_err-letter-clause-none c =
    let p = err_from_is_err_and c.from_residual.result c.from_residual.ensures.1 in
    rw p.1 (directory_absent c.args.is_wide c.args.bytes.now c.in_err-letter.ensures.none)

pub returns-in_default-clause-none : goal.returns-in_default-clause-none
returns-in_default-clause-none c =
    directory_unknown c.args.is_wide c.args.bytes.now c.in_ok-letter.rest.now c.in_ok-letter.letter
    c.in_ok-letter.ensures.found c.in_default.ensures.none

pub returns-in_err-owner-clause-none : goal.returns-in_err-owner-clause-none
returns-in_err-owner-clause-none c =
    let p = err_from_is_err_and c.from_residual-in_err-owner.result c.from_residual-in_err-owner.ensures.1 in
    let some = c.in-Some.ensures.some in
    rw p.1 (directory_none c.args.is_wide c.args.bytes.now c.in_ok-letter.rest.now c.in_ok-letter.letter
    c.in_ok-letter.ensures.found c.in-Some.has_times some.0 some.1 c.in_err-owner.ensures.none)

pub returns-clause-found : goal.returns-clause-found
returns-clause-found c =
    let some = c.in-Some.ensures.some in
    directory_read c.args.is_wide c.args.bytes.now c.in_ok-letter.rest.now c.in_ok-letter.letter
    c.in_ok-letter.ensures.found c.in-Some.has_times some.0 some.1 (c.in_ok-owner.owner, c.in_ok-owner.times)
    c.in_ok-owner.rest.now c.in_ok-owner.ensures.found
