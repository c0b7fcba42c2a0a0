use Rattle.sftp_handles.proofs.Imports.{sym}
use Rattle.sftp_handles.proofs.HandleTables.SlotTables.{open-named}
use Rattle.sftp_handles.proofs.slab_table.find_open.Goals as goal

pub returns : goal.returns
returns c =
    sym (open-named c.args.opens.now c.args.name.now c.in_ok-number.number c.index.result.now c.requires
    c.index.ensures c.in_ok-number.ensures.found)
