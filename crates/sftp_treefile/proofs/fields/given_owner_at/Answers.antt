-- An owner, and then the times.
use Rattle.sftp_treefile.proofs.Imports.{err_from_is_err_and}
use Rattle.sftp_treefile.proofs.Texts.Entries.{given_owner_none, given_times_none, given_owner_read}
use Rattle.sftp_treefile.proofs.fields.given_owner_at.Goals as goal

pub returns-in_err-owner-clause-none : goal.returns-in_err-owner-clause-none
returns-in_err-owner-clause-none c =
    let p = err_from_is_err_and c.from_residual.result c.from_residual.ensures.1 in
    rw p.1 (given_owner_none c.args.has_times c.args.bytes.now c.in_err-owner.ensures.none)

pub returns-in_err-times-clause-none : goal.returns-in_err-times-clause-none
returns-in_err-times-clause-none c =
    let p = err_from_is_err_and c.from_residual-in_err-times.result c.from_residual-in_err-times.ensures.1 in
    rw p.1 (given_times_none c.args.has_times c.args.bytes.now c.in_ok-owner.rest.now c.in_ok-owner.owner
    c.in_ok-owner.ensures.found c.in_err-times.ensures.none)

pub returns-clause-found : goal.returns-clause-found
returns-clause-found c =
    given_owner_read c.args.has_times c.args.bytes.now c.in_ok-owner.rest.now c.in_ok-times.rest.now c.in_ok-owner.owner
    c.in_ok-times.times c.in_ok-owner.ensures.found c.in_ok-times.ensures.found
