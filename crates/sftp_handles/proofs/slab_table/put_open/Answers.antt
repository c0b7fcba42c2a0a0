use Rattle.sftp_handles.proofs.Imports.{◌∙◌, ap, with_open, slot_name, slab_handles}
use Rattle.sftp_handles.proofs.HandleTables.SlotTables.{changed-put}
use Rattle.sftp_handles.proofs.slab_table.put_open.Goals as goal

pub returns-clause-opened : goal.returns-clause-opened
returns-clause-opened c =
    changed-put c.args.opens.now c.insert_reserved.new.self c.insert_reserved.result
    (record { serial = c.args.serial; opened = c.args.it }) c.requires.numbered c.insert_reserved.type_inv
    c.insert_reserved.ensures.updates (λ other found. absurd (let free = c.insert_reserved.ensures.was_vacant in cc))
    ∙ ap (λ n. with_open (slab_handles c.args.opens.now) (slot_name n c.args.serial) c.args.it)
    c.insert_reserved.ensures.key
