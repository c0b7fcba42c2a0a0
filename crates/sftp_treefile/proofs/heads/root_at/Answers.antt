-- How many entries there are, and then what is said of the root.
use Rattle.sftp_treefile.proofs.Imports.{arith, err_from_is_err_and}
use Rattle.sftp_treefile.proofs.Texts.Heads.{count_none, root_owner_none, root_read}
use Rattle.sftp_treefile.proofs.heads.root_at.Goals as goal

pub returns-in_err-count-clause-none : goal.returns-in_err-count-clause-none
returns-in_err-count-clause-none c =
    let p = err_from_is_err_and c.from_residual.result c.from_residual.ensures.1 in
    rw p.1 (count_none c.args.opening c.args.limits c.args.bytes.now c.in_err-count.ensures.none)

pub returns-in_err-root-clause-none : goal.returns-in_err-root-clause-none
returns-in_err-root-clause-none c =
    let p = err_from_is_err_and c.from_residual-in_err-root.result c.from_residual-in_err-root.ensures.1 in
    rw p.1 (root_owner_none c.args.opening c.args.limits (omega arith) c.args.bytes.now c.in_ok-count.rest.now c.in_ok-count.count c.in_ok-count.ensures.found c.in_err-root.ensures.none)

pub returns-clause-found : goal.returns-clause-found
returns-clause-found c = root_read c.args.opening c.args.limits c.args.bytes.now c.in_ok-count.rest.now c.in_ok-root.rest.now
    c.in_ok-count.count (c.in_ok-root.root, c.in_ok-root.times) c.in_ok-count.ensures.found c.in_ok-root.ensures.found
