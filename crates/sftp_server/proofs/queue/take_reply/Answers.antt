use Rattle.sftp_server.proofs.Imports.{refl, slice_get_read, Sent}
use Rattle.sftp_server.proofs.Queues.{stored}
use Rattle.sftp_server.proofs.queue.take_reply.Goals as goal

pub returns-clause-marked : goal.returns-clause-marked
returns-clause-marked c =
    let items = c.args.entries.now.items in
    let entry = c.in_ok-entry.entry.now in
    let at = slice_get_read items c.args.entries.now.len c.args.k entry c.args.entries.now.ok.0
    (c.in_ok-entry.ensures.variant.0 refl) c.in_ok-entry.ensures.value in
    rw c.replace.ensures.after (stored items c.args.k entry Sent at)
