-- The front, field by field.
use Rattle.sftp_treefile.proofs.Imports.{inr, err_from_is_err_and}
use Rattle.sftp_treefile.proofs.Texts.Heads.{or_fault}
use Rattle.sftp_treefile.proofs.Texts.Heads.{opening_none, home_none, uid_none, gid_none, front_read}
use Rattle.sftp_treefile.proofs.heads.front_at.Goals as goal

pub returns-in_err-opening-clause-none : goal.returns-in_err-opening-clause-none
returns-in_err-opening-clause-none c =
    let p = err_from_is_err_and c.from_residual.result c.from_residual.ensures.1 in
    rw p.1 (inr (opening_none c.args.bytes.now c.in_err-opening.ensures.none))

pub returns-in_err-home-clause-none : goal.returns-in_err-home-clause-none
returns-in_err-home-clause-none c =
    let p = err_from_is_err_and c.from_residual-in_err-home.result c.from_residual-in_err-home.ensures.1 in
    rw (p.1, p.2) (or_fault _ _ _ c.in_err-home.ensures.none (home_none c.args.bytes.now c.in_ok-opening.rest.now c.in_ok-opening.opening c.in_ok-opening.ensures.found))

pub returns-in_err-uid-clause-none : goal.returns-in_err-uid-clause-none
returns-in_err-uid-clause-none c =
    let p = err_from_is_err_and c.from_residual-in_err-uid.result c.from_residual-in_err-uid.ensures.1 in
    rw p.1 (inr (uid_none c.args.bytes.now c.in_ok-opening.rest.now c.in_ok-opening.opening c.in_ok-opening.ensures.found c.in_ok-home.rest.now c.in_ok-home.home c.in_ok-home.ensures.found c.in_err-uid.ensures.none))

pub returns-in_err-gid-clause-none : goal.returns-in_err-gid-clause-none
returns-in_err-gid-clause-none c =
    let p = err_from_is_err_and c.from_residual-in_err-gid.result c.from_residual-in_err-gid.ensures.1 in
    rw p.1 (inr (gid_none c.args.bytes.now c.in_ok-opening.rest.now c.in_ok-opening.opening c.in_ok-opening.ensures.found c.in_ok-home.rest.now c.in_ok-home.home c.in_ok-home.ensures.found c.in_ok-uid.rest.now c.in_ok-uid.uid c.in_ok-uid.ensures.found c.in_err-gid.ensures.none))

pub returns-clause-found : goal.returns-clause-found
returns-clause-found c = front_read c.args.bytes.now c.in_ok-opening.rest.now c.in_ok-opening.opening
    c.in_ok-opening.ensures.found c.in_ok-home.rest.now c.in_ok-home.home c.in_ok-home.ensures.found
    c.in_ok-uid.rest.now c.in_ok-gid.rest.now c.in_ok-uid.uid c.in_ok-gid.gid c.in_ok-uid.ensures.found
    c.in_ok-gid.ensures.found
