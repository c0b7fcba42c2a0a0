use Rattle.sftp_handles.proofs.Imports.{◌∙◌, sym}
use Rattle.sftp_handles.proofs.HandleTables.{open-found, changed-without}
use Rattle.sftp_handles.proofs.given_table.take_open.Goals as goal

pub returns-clause-before : goal.returns-clause-before
returns-clause-before c =
    c.shift_remove.ensures.value ∙ sym (open-found (λ k. k.items) c.args.name.now c.args.opens.now.entries)

pub returns-clause-closed : goal.returns-clause-closed
returns-clause-closed c =
    changed-without (λ k. k.items) c.args.opens.now.entries c.shift_remove.new.self.entries c.args.name.now
    c.shift_remove.ensures.updates.1 c.shift_remove.ensures.updates.3
