use Rattle.sftp_handles.proofs.Imports.{◌≡◌, ◌==◌, ◌∙◌, ap, if◌then◌else◌, serial_before}
use Rattle.sftp_handles.proofs.HandleTables.SlotTables.{first-bytes, given-newest, given-older}
use Rattle.sftp_handles.proofs.slab_table.SlabTableHandleTable.give_back.Goals as goal

pub returns-clause-next : goal.returns-clause-next
returns-clause-next c =
    first-bytes c.args.name.now c.take_slot.new.opens.vacant_key c.in_ok-slot.slot.serial c.in_ok-slot.ensures.freed

pub returns-clause-newest : goal.returns-clause-newest
returns-clause-newest c newest =
    let given = c.in_ok-slot.slot.serial in
    let old = c.args.self.now.serial in
    let next : c.serial_given_back-self-inside.result ≡ (if given == serial_before old then given else old) =
    c.serial_given_back-self-inside.ensures.serial
    ∙ ap (λ t. if given == serial_before t.serial then given else t.serial) c.self.view_is in
    given-newest c.args.name.now c.take_slot.new.opens.vacant_key given old c.serial_given_back-self-inside.result
    c.serial_given_back-self-inside.ensures.fits c.in_ok-slot.ensures.freed next newest

pub returns-clause-older : goal.returns-clause-older
returns-clause-older c older =
    let given = c.in_ok-slot.slot.serial in
    let old = c.args.self.now.serial in
    let next : c.serial_given_back-self-inside.result ≡ (if given == serial_before old then given else old) =
    c.serial_given_back-self-inside.ensures.serial
    ∙ ap (λ t. if given == serial_before t.serial then given else t.serial) c.self.view_is in
    given-older c.args.name.now c.take_slot.new.opens.vacant_key given old c.serial_given_back-self-inside.result
    c.serial_given_back-self-inside.ensures.fits c.in_ok-slot.ensures.freed next older
