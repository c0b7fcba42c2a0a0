use Rattle.sftp_handles.proofs.Imports.{◌∙◌, sym, ap, refl, open_at, with_open, slab_handles}
use Rattle.sftp_handles.specs.Slots.{Slots, next_name}
use Rattle.sftp_handles.proofs.HandleTables.SlotTables.{open-named, swapped-at}
use Rattle.sftp_handles.proofs.slab_table.SlabTableHandleTable.find_mut.Goals as goal

pub returns : goal.returns
returns c =
    let opens = c.self.inside.opens in
    let name = c.args.name.now in
    let number = c.in_ok-number.number in
    let slot = c.index_mut-slot.result.now in
    let found = c.in_ok-number.ensures.found in (
      (
        refl,
        (λ it. (
          swapped-at opens name number slot it c.self.invariant c.index_mut-slot.ensures.value found
              ∙ ap (λ (t : Slots). with_open (slab_handles t.opens) name it) c.self.view_is,
          λ i want. next_name (c.self.view_is i),
        )),
        (refl, refl),
      ),
      record {
        writes_back = tt;
        found =
            sym (open-named opens name number slot c.self.invariant c.index_mut-slot.ensures.value found)
            ∙ ap (λ (t : Slots). open_at (slab_handles t.opens) name) c.self.view_is;
      },
    )
