use Rattle.sftp_handles.proofs.Imports.{◌∙◌, sym}
use Rattle.sftp_handles.proofs.HandleTables.SlotTables.{open-count}
use Rattle.sftp_handles.proofs.slab_table.count_open.Goals as goal

pub returns : goal.returns
returns c = c.len.ensures ∙ sym (open-count c.args.opens.now c.requires)
