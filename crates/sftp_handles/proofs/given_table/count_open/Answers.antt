use Rattle.sftp_handles.proofs.Imports.{◌∙◌, sym}
use Rattle.sftp_handles.proofs.HandleTables.{open-count}
use Rattle.sftp_handles.proofs.given_table.count_open.Goals as goal

pub returns : goal.returns
returns c = c.len.ensures.len ∙ sym (open-count (λ k. k.items) c.args.opens.now.entries c.len.ensures.unique)
