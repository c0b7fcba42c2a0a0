use Rattle.sftp_handles.proofs.Imports.{◌≡◌, ◌∙◌, sym, ap, None, Some, option_copied, arith}
use Rattle.slab.specs.Slab.{get}
use Rattle.sftp_handles.proofs.HandleTables.SlotTables.{name-read, serial-read, name-differs, open-length, open-free}
use Rattle.sftp_handles.proofs.HandleTables.SlotTables.{open-other}
use Rattle.sftp_handles.proofs.slab_table.slot_of.Goals as goal

pub returns-then-name-ne12-clause-absent : goal.returns-then-name-ne12-clause-absent
returns-then-name-ne12-clause-absent c =
    open-length c.args.opens.now c.args.name.now c.requires c.if-name-ne12.true

pub returns-in_err-slot-clause-absent : goal.returns-in_err-slot-clause-absent
returns-in_err-slot-clause-absent c =
    let free : get c.args.opens.now c.read_u64-number.result ≡ None =
    sym c.get.ensures ∙ ap option_copied c.in_err-slot.was in
    rw c.from_residual.ensures
    (open-free c.args.opens.now c.args.name.now c.read_u64-number.result c.requires c.read_u64-number.ensures free)

pub returns-then-read_u32-slot-clause-found : goal.returns-then-read_u32-slot-clause-found
returns-then-read_u32-slot-clause-found c =
    let found : get c.args.opens.now c.read_u64-number.result ≡ Some c.in_ok-slot.slot.now =
    sym c.get.ensures ∙ ap option_copied c.in_ok-slot.was in
    rw found
    (name-read c.args.name.now c.read_u64-number.result c.in_ok-slot.slot.now.serial
    (omega (arith, c.if-name-ne12.false)) (λ i. omega (arith, c.type_inv.name i)) c.read_u64-number.ensures
    (sym c.if-read_u32-slot.true ∙ (c.read_u32.ensures ∙ serial-read c.args.name.now (omega
    (arith, c.if-name-ne12.false)))))

pub returns-else-read_u32-slot-clause-absent : goal.returns-else-read_u32-slot-clause-absent
returns-else-read_u32-slot-clause-absent c =
    let number = c.read_u64-number.result in
    let slot = c.in_ok-slot.slot.now in
    let found : get c.args.opens.now number ≡ Some slot = sym c.get.ensures ∙ ap option_copied c.in_ok-slot.was in
    open-other c.args.opens.now c.args.name.now number slot c.requires c.read_u64-number.ensures found
    (name-differs c.args.name.now number slot.serial c.read_u32.result (omega arith)
    (c.read_u32.ensures ∙ serial-read c.args.name.now (omega (arith, c.if-name-ne12.false)))
    c.if-read_u32-slot.false)
