use Rattle.sftp_handles.proofs.Imports.{◌∙◌, sym}
use Rattle.sftp_handles.proofs.HandleTables.{open-found}
use Rattle.sftp_handles.proofs.given_table.find_open.Goals as goal

pub returns : goal.returns
returns c = c.get.ensures.value ∙ sym (open-found (λ k. k.items) c.args.name.now c.args.opens.now.entries)
