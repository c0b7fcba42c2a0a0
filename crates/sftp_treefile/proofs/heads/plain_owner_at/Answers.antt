-- An owner, and no times.
use Rattle.sftp_treefile.proofs.Imports.{err_from_is_err_and}
use Rattle.sftp_treefile.proofs.Texts.Heads.{plain_owner_none, plain_owner_read}
use Rattle.sftp_treefile.proofs.heads.plain_owner_at.Goals as goal

pub returns-in_err-owner-clause-none : goal.returns-in_err-owner-clause-none
returns-in_err-owner-clause-none c =
    let p = err_from_is_err_and c.from_residual.result c.from_residual.ensures.1 in
    rw p.1 (plain_owner_none c.args.bytes.now c.in_err-owner.ensures.none)

pub returns-clause-found : goal.returns-clause-found
returns-clause-found c =
    plain_owner_read c.args.bytes.now c.in_ok-owner.rest.now c.in_ok-owner.owner c.in_ok-owner.ensures.found
