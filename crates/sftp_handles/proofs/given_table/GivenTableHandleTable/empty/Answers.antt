use Rattle.sftp_handles.proofs.Imports.{ap, from_entries, handles_in}
use Rattle.sftp_handles.proofs.given_table.GivenTableHandleTable.empty.Goals as goal

pub returns : goal.returns
unfolding from_entries
returns c = ap (handles_in (λ k. k.items)) c.new.ensures.empty
