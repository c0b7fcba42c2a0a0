-- A fault ends the session, once the writer and the log were flushed.
use Rattle.sftp_server.proofs.Imports.{subst, err_from_is_err_and, Front, fault_of, stream_bytes, IsRunning}
use Rattle.sftp_server.proofs.Sessions.Closed.{writer-stops, log-stops, running-written, running-logged, ending-fault}
use Rattle.sftp_server.proofs.serving.after_batch.Goals as goal

pub returns-in_err-flush-in-Fault-clause-running : goal.returns-in_err-flush-in-Fault-clause-running
returns-in_err-flush-in-Fault-clause-running g c =
    let p = err_from_is_err_and c.from_residual.result c.from_residual.ensures.1 in
    rw (p.1, p.2) (λ start past core running answered.
    writer-stops running c.flush.ensures.bytes c.in_err-flush-in-Fault.ensures.err)

pub returns-in_err-flush_log-in-Fault-clause-running : goal.returns-in_err-flush_log-in-Fault-clause-running
returns-in_err-flush_log-in-Fault-clause-running g c =
    let p =
    err_from_is_err_and c.from_residual-in_err-flush_log-in-Fault.result
    c.from_residual-in_err-flush_log-in-Fault.ensures.1 in
    rw (p.1, p.2) (λ start past core running answered.
    log-stops (running-written running c.flush.ensures.bytes) c.flush_log.ensures.bytes
    c.in_err-flush_log-in-Fault.ensures.err)

pub returns-in_ok-flush_log-in-Fault-clause-running : goal.returns-in_ok-flush_log-in-Fault-clause-running
returns-in_ok-flush_log-in-Fault-clause-running g c = λ start past core running answered.
    let now =
    stream_bytes (g.R.Source.left c.args.reader.now) (g.W.Sink.written c.flush.new.writer) c.flush_log.new.log.bytes in
    ending-fault
    (subst (λ (front : Front). IsRunning start past now c.args.input.now core (fault_of front)) c.in-Fault.is
    (running-logged (running-written running c.flush.ensures.bytes) c.flush_log.ensures.bytes))
    answered
