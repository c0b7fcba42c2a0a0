-- The bytes of a slice are known, and reading them never fails.
use Rattle.sftp_treefile.proofs.Imports.{refl}
use Rattle.sftp_treefile.proofs.Texts.Front.{gives_found, gives_only}
use Rattle.sftp_treefile.proofs.reading.read_rows.Goals as goal

pub returns-clause-found : goal.returns-clause-found
returns-clause-found c = gives_found c.read_rows_from.result c.args.bytes.now (rw c.new.ensures at (c.read_rows_from.ensures.found))

pub returns-clause-only : goal.returns-clause-only
returns-clause-only c = λ file is. gives_only c.read_rows_from.result file c.read_rows_from.ensures.may_fail
    (c.read_rows_from.ensures.only c.args.bytes.now (rw c.new.ensures refl) file is)
