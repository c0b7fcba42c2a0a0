use Rattle.sftp_server.proofs.Imports.{◌≡◌, ◌||◌, ℕ, nat_eq, is_some, ◌∙◌, ap, lookup}
use Rattle.sftp_server.proofs.Queues.{queue-pushed, some_or}
use Rattle.sftp_server.proofs.queue.Queue.push.Goals as goal

pub invariant_of-self-in-Ok : goal.invariant_of-self-in-Ok
invariant_of-self-in-Ok c =
    let old = c.self.inside in
    let noted : (id : ℕ) → is_some (lookup (nat_eq id) c.insert.new.self.entries)
    ≡ (nat_eq c.args.request.id id || is_some (lookup (nat_eq id) old.ids.entries)) =
    λ id. ap is_some (c.in-Ok.ensures.updates.0 id) ∙ some_or (nat_eq c.args.request.id id) (lookup
    (nat_eq id) old.ids.entries) in
    rw (c.push_back_reserved.ensures.items, c.reserve.ensures.items)
    (queue-pushed old.entries.items old.ids.entries c.insert.new.self.entries c.args.request c.self.invariant
    (rw c.self.view_is c.requires) noted)
