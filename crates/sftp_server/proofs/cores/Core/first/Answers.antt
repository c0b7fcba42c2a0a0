-- The front is ready, or done, or there is none.
use Rattle.sftp_server.proofs.Imports.{◌≡◌, subst, sym, ◌∙◌, true, false, State, Machine, from_unsent, is_pending_at, server_clash}
use Rattle.sftp_server.proofs.ReadyLaws.{front-ready, nothing-in_front}
use Rattle.sftp_server.proofs.cores.Core.first.Goals as goal

pub returns-then-is_pending-clause-possible : goal.returns-then-is_pending-clause-possible
returns-then-is_pending-clause-possible g c =
    front-ready server_clash c.args.self.now
    (subst (λ (m : Machine State). is_pending_at m.queue 0 ≡ true) c.self.view_is
    (sym c.is_pending.ensures ∙ c.if-is_pending.true))

pub returns-else-is_done-clause-none : goal.returns-else-is_done-clause-none
returns-else-is_done-clause-none g c =
    nothing-in_front c.args.self.now.queue
    (subst (λ (m : Machine State). from_unsent m.queue ≡ m.queue) c.self.view_is c.self.invariant.front)
    (subst (λ (m : Machine State). is_pending_at m.queue 0 ≡ false) c.self.view_is
    (sym c.is_pending.ensures ∙ c.if-is_pending.false))
    (sym c.is_done.ensures ∙ c.if-is_done.false)
