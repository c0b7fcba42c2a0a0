-- A uint32.
use Rattle.sftp_treefile.proofs.Imports.{err_from_is_err_and}
use Rattle.sftp_treefile.proofs.Texts.Entries.{short_none, short_read}
use Rattle.sftp_treefile.proofs.fields.short_length_at.Goals as goal

pub returns-in_err-count-clause-none : goal.returns-in_err-count-clause-none
returns-in_err-count-clause-none c =
    let p = err_from_is_err_and c.from_residual.result c.from_residual.ensures.1 in
    rw p.1 (short_none c.args.bytes.now c.in_err-count.ensures.none)

pub returns-clause-found : goal.returns-clause-found
returns-clause-found c =
    short_read c.args.bytes.now c.in_ok-count.rest.now c.in_ok-count.count c.in_ok-count.ensures.found
