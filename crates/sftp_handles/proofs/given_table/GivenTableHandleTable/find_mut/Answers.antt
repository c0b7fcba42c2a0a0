use Rattle.sftp_handles.proofs.Imports.{◌∙◌, sym, ap, refl, lookup, open_at, with_open, handles_in, from_entries}
use Rattle.sftp_handles.proofs.Imports.{bytes_cmp}
use Rattle.sftp_handles.proofs.HandleTables.{has_bytes, open-found, lent-found, changed-put}
use Rattle.sftp_handles.specs.Slots.{Given}
use Rattle.sftp_handles.proofs.given_table.GivenTableHandleTable.find_mut.Goals as goal

pub returns : goal.returns
returns c =
    let entries = c.self.inside.opens.entries in
    let name = c.args.name.now in (
      (
        refl,
        (λ it. lent-found c.get_mut.result (lookup (has_bytes (λ k. k.items) name) entries) _ c.get_mut.ensures.value
            (λ is.
            let updates = (c.get_mut.follows.holds it).3 is in (
              changed-put (λ k. k.items) entries (c.get_mut.follows.lender it).entries name it updates.1 updates.3
                  ∙ ap (λ (t : Given). with_open (from_entries bytes_cmp t.entries) name it) c.self.view_is,
              refl,
            ))),
        (
          ap (λ m. handles_in (λ k. k.items) m.entries) c.get_mut.follows.holds-at-none
              ∙ ap (λ (t : Given). from_entries bytes_cmp t.entries) c.self.view_is,
          refl,
        ),
      ),
      record {
        writes_back = tt;
        found =
            c.get_mut.ensures.value
            ∙ (sym (open-found (λ k. k.items) name entries)
            ∙ ap (λ (t : Given). open_at (from_entries bytes_cmp t.entries) name) c.self.view_is);
      },
    )
