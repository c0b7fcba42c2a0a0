use Rattle.sftp_handles.proofs.Imports.{ap, from_entries, handles_from, slot_name}
use Rattle.sftp_handles.proofs.slab_table.SlabTableHandleTable.empty.Goals as goal

pub returns-clause-empty : goal.returns-clause-empty
unfolding from_entries
returns-clause-empty c = ap (handles_from 0) c.new.ensures.empty

pub returns-clause-first : goal.returns-clause-first
returns-clause-first c = ap (λ n. slot_name n 0) c.new.ensures.first_key
