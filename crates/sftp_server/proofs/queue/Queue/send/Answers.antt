use Rattle.sftp_server.proofs.Imports.{◌≡◌, ◌&&◌, not, ℕ, nat_eq, is_some, ap, ◌∙◌, lookup}
use Rattle.sftp_server.proofs.Queues.{queue-sent, struck_or}
use Rattle.sftp_server.proofs.queue.Queue.send.Goals as goal

pub invariant_of-self-2 : goal.invariant_of-self-2
invariant_of-self-2 c =
    let old = c.self.inside in
    let struck : (id : ℕ) → is_some (lookup (nat_eq id) c.swap_remove.new.self.entries)
    ≡ (not (nat_eq c.in_ok-id.id id) && is_some (lookup (nat_eq id) old.ids.entries)) =
    λ id. ap is_some (c.swap_remove.ensures.updates.0 id) ∙ struck_or (nat_eq c.in_ok-id.id id) (lookup
    (nat_eq id) old.ids.entries) in
    rw (c.drop_sent.ensures, c.in_ok-id.ensures.marked)
    (queue-sent old.entries.items old.ids.entries c.swap_remove.new.self.entries c.args.k c.in_ok-id.id
    c.in_ok-id.reply c.self.invariant c.in_ok-id.ensures.id struck)
