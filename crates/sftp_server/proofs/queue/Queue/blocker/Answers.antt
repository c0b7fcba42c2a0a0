use Rattle.sftp_server.proofs.Imports.{◌<◌, ◌-◌, sym, ◌∙◌, arith, server_clash}
use Rattle.sftp_server.proofs.ReadyLaws.{free-clear, free-not}
use Rattle.sftp_server.proofs.queue.Queue.blocker.Goals as goal

pub returns-then-is_in_way : goal.returns-then-is_in_way
returns-then-is_in_way g c =
    let within = c.down.invariant.0 in
    let before : c.down.j - 1 < c.args.k = omega (arith, within, c.down-test.true) in
    free-not server_clash c.args.session.now c.args.self.now c.args.k (c.down.j - 1) c.args.request.now before
    (sym c.is_in_way.ensures ∙ c.if-is_in_way.true)

pub returns : goal.returns
returns g c =
    free-clear server_clash c.args.session.now c.args.self.now c.args.k c.args.request.now
    (λ i before. c.down.invariant.1 i (omega (arith, c.down-test.false)) before)
