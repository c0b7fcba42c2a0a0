use Rattle.sftp_handles.proofs.Imports.{◌∙◌, sym, ap, subst, AreBytes, slot_name}
use Rattle.sftp_handles.proofs.HandleTables.SlotTables.{closed-put, slot_name-bytes}
use Rattle.sftp_handles.proofs.slab_table.reserve_open.Goals as goal

pub returns-in-Ok-clause-named : goal.returns-in-Ok-clause-named
returns-in-Ok-clause-named c =
    c.in-Ok.ensures.items ∙ (c.as_slice.ensures ∙ (c.name_of-spelled.ensures
    ∙ ap (λ n. slot_name n c.args.serial) c.vacant_key.ensures.value))

pub returns-in-Ok-clause-closed : goal.returns-in-Ok-clause-closed
returns-in-Ok-clause-closed c =
    closed-put c.args.opens.now c.reserve.new.self c.vacant_key.result c.args.serial c.in-Ok.name.items c.requires
    (ap (λ s. s.slots) c.reserve.ensures.rest_kept) c.vacant_key.type_inv c.vacant_key.ensures.vacant
    (c.in-Ok.ensures.items ∙ (c.as_slice.ensures ∙ c.name_of-spelled.ensures))

pub returns-in-Ok-clause-bytes : goal.returns-in-Ok-clause-bytes
returns-in-Ok-clause-bytes c =
    subst AreBytes (sym (c.in-Ok.ensures.items ∙ (c.as_slice.ensures ∙ c.name_of-spelled.ensures)))
    (slot_name-bytes c.vacant_key.result c.args.serial)
