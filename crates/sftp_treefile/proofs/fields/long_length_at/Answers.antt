-- A uint64 that is no uint32.
use Rattle.sftp_treefile.proofs.Imports.{arith, err_from_is_err_and}
use Rattle.sftp_treefile.proofs.Texts.Entries.{long_none, too_short, long_read}
use Rattle.sftp_treefile.proofs.fields.long_length_at.Goals as goal

pub returns-in_err-count-clause-none : goal.returns-in_err-count-clause-none
returns-in_err-count-clause-none c =
    let p = err_from_is_err_and c.from_residual.result c.from_residual.ensures.1 in
    rw p.1 (long_none c.args.bytes.now c.in_err-count.ensures.none)

pub returns-then-count-lt-LEAST_LONG-clause-none : goal.returns-then-count-lt-LEAST_LONG-clause-none
returns-then-count-lt-LEAST_LONG-clause-none c =
    too_short c.args.bytes.now c.in_ok-count.rest.now c.in_ok-count.count c.in_ok-count.ensures.found
    (omega (arith, c.if-count-lt-LEAST_LONG.true))

pub returns-clause-found : goal.returns-clause-found
returns-clause-found c =
    long_read c.args.bytes.now c.in_ok-count.rest.now c.in_ok-count.count c.in_ok-count.ensures.found
    (omega (arith, c.if-count-lt-LEAST_LONG.false))
