use Rattle.sftp_handles.proofs.Imports.{arith, nat_list_cmp_total, bytes_cmp, named, handles_in, InOrder-from_entries}
use Rattle.sftp_handles.proofs.HandleTables.SlotTables.{not-below}
use Rattle.sftp_handles.proofs.free_names.free_number.Goals as goal

pub unreachable-requires : goal.unreachable-requires
unreachable-requires c =
    let few = c.requires in
    let end = c.taken-test.false in
    let most = c.taken.invariant.1 in
    not-below c.taken.number (handles_in (λ k. k.items) c.args.opens.now.entries) (omega (arith, most))
    (InOrder-from_entries bytes_cmp nat_list_cmp_total (named (λ k. k.items) c.args.opens.now.entries))
    (omega (arith, few, end)) c.taken.invariant.0
