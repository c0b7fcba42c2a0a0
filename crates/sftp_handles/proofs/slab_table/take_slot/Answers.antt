use Rattle.sftp_handles.proofs.Imports.{sym, bytes_cmp, without-absent, slab_handles}
use Rattle.sftp_handles.proofs.HandleTables.SlotTables.{open-named, freed-at}
use Rattle.sftp_handles.proofs.slab_table.take_slot.Goals as goal

pub returns-in_err-freed-clause-closed : goal.returns-in_err-freed-clause-closed
returns-in_err-freed-clause-closed c =
    sym (without-absent bytes_cmp (slab_handles c.args.opens.now) c.args.name.now c.in_err-freed.ensures.absent)

pub returns-clause-closed : goal.returns-clause-closed
returns-clause-closed c =
    freed-at c.args.opens.now c.remove.new.self c.args.name.now c.in_ok-freed.freed c.remove.result c.requires
    c.remove.ensures.value c.in_ok-freed.ensures.found c.remove.ensures.updates

pub returns-clause-before : goal.returns-clause-before
returns-clause-before c =
    open-named c.args.opens.now c.args.name.now c.in_ok-freed.freed c.remove.result c.requires
    c.remove.ensures.value c.in_ok-freed.ensures.found
