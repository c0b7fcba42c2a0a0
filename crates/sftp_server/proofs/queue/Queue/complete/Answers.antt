use Rattle.sftp_server.proofs.Imports.{refl, slice_get_read, Done}
use Rattle.sftp_server.proofs.Queues.{queue-done, stored}
use Rattle.sftp_server.proofs.queue.Queue.complete.Goals as goal

pub invariant_of-self : goal.invariant_of-self
invariant_of-self c =
    let old = c.self.inside in
    let entry = c.in-Some.entry.now in
    let at = slice_get_read old.entries.items old.entries.len c.args.k entry old.entries.ok.0
    (c.in-Some.ensures.variant.0 refl) c.in-Some.ensures.value in
    rw (c.replace.ensures.after, stored old.entries.items c.args.k entry (Done c.args.reply) at)
    (queue-done old.entries.items old.ids.entries c.args.k c.args.reply c.self.invariant
    (rw c.self.view_is c.requires))

pub returns : goal.returns
returns c =
    let old = c.self.inside in
    let entry = c.in-Some.entry.now in
    let at = slice_get_read old.entries.items old.entries.len c.args.k entry old.entries.ok.0
    (c.in-Some.ensures.variant.0 refl) c.in-Some.ensures.value in
    rw (c.replace.ensures.after, ← c.self.view_is) (stored old.entries.items c.args.k entry (Done c.args.reply) at)
