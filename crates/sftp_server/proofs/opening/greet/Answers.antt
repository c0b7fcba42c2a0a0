use Rattle.sftp_server.proofs.Imports.{sym, subst, ap, ◌∙◌, side_of, Stop, stream_bytes, Stops}
use Rattle.sftp_server.proofs.Sessions.Opened.{IsInitLogged, init-client, init-taken, init-logged, init-unlogged}
use Rattle.sftp_server.proofs.Sessions.Opened.{stopped-so, version-done, version-server, first_left}
use Rattle.sftp_server.proofs.opening.greet.Goals as goal

pub returns-in_err-log_init-clause-running : goal.returns-in_err-log_init-clause-running
returns-in_err-log_init-clause-running g c = λ start past left same good unopened.
    let whole = c.requires.whole in
    let written = g.W.Sink.written c.args.writer.now in
    stopped-so c.from_residual.result _ _ c.in_err-log_init.field-0.0 c.from_residual.ensures.1
    (subst
    (λ (stop : Stop). Stops start past (stream_bytes left written c.log_init.new.log.bytes) stop (first_left start))
    (sym c.in_err-log_init.ensures.err)
    (init-unlogged whole unopened
    (c.in_err-log_init.ensures.logged whole.init (init-client whole.init whole.greeting.0)
    (init-taken c.args.input.now.held c.args.count whole).0)))

pub returns-clause-running : goal.returns-clause-running
returns-clause-running g c = λ start past left same good unopened.
    let whole = c.requires.whole in
    let now = stream_bytes left (g.W.Sink.written c.args.writer.now) c.log_init.new.log.bytes in
    version-done start (g.W.Sink.written c.send.new.writer) c.send.new.log c.send.result
    (ap side_of same ∙ version-server c.args.version.now c.requires.version) good (sym same)
    c.in_ok-log_init.ensures.logging
    (subst (IsInitLogged whole.init past now) (sym c.in_ok-log_init.ensures.taken)
    (init-logged whole unopened
    (c.in_ok-log_init.ensures.logged whole.init (init-client whole.init whole.greeting.0)
    (init-taken c.args.input.now.held c.args.count whole).0)))
    c.send.ensures.written c.send.ensures.logged c.send.ensures.err
