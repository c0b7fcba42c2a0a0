use Rattle.sftp_handles.proofs.HandleTables.{changed-put}
use Rattle.sftp_handles.proofs.given_table.put_open.Goals as goal

pub returns : goal.returns
returns c =
    changed-put (λ k. k.items) c.args.opens.now.entries c.insert.new.self.entries c.args.name.items c.args.it
    c.in-Ok.ensures.updates.1 c.in-Ok.ensures.updates.3
