-- While no packet is complete the session passes on what it wrote, and reads.
use Rattle.sftp_server.proofs.Imports.{◌<◌, ◌∙◌, arith, err_from_is_err_and, Client, none-leaves_room}
use Rattle.sftp_server.proofs.Sessions.Closed.{running-more, running-written, reader-stops, writer-stops}
use Rattle.sftp_server.proofs.Sessions.Closed.{ahead-falls, running-sound}
use Rattle.sftp_server.proofs.scripted.await_request.Goals as goal

pub returns-in-Full-clause-running : goal.returns-in-Full-clause-running
returns-in-Full-clause-running g c = λ start past running.
    running-sound (c.in_ok-take_one.ensures.running start past (g.R.Source.left c.request.reader)
    (g.W.Sink.written c.request.writer) (c.request.invariant.running start past running))

pub returns-in_err-flush-in-Waiting-clause-running : goal.returns-in_err-flush-in-Waiting-clause-running
returns-in_err-flush-in-Waiting-clause-running g c =
    let p =
    err_from_is_err_and c.from_residual-in_err-flush-in-Waiting.result
    c.from_residual-in_err-flush-in-Waiting.ensures.1 in
    rw (p.1, p.2) (λ start past running.
    writer-stops (running-sound (c.in_ok-take_one.ensures.running start past (g.R.Source.left c.request.reader)
    (g.W.Sink.written c.request.writer) (c.request.invariant.running start past running)))
    c.flush.ensures.bytes c.in_err-flush-in-Waiting.ensures.err)

pub read-requires : goal.read-requires
read-requires g c =
    omega (
      arith,
      none-leaves_room Client c.take_one.new.input.held
          (c.in_ok-take_one.ensures.waits c.in-Waiting.is),
    )

pub returns-in_err-read-in-Waiting-clause-running : goal.returns-in_err-read-in-Waiting-clause-running
returns-in_err-read-in-Waiting-clause-running g c =
    let p =
    err_from_is_err_and c.from_residual-in_err-read-in-Waiting.result
    c.from_residual-in_err-read-in-Waiting.ensures.1 in
    rw (p.1, p.2) (λ start past running.
    reader-stops (running-written (running-sound (c.in_ok-take_one.ensures.running start past
    (g.R.Source.left c.request.reader) (g.W.Sink.written c.request.writer)
    (c.request.invariant.running start past running))) c.flush.ensures.bytes)
    c.in_err-read-in-Waiting.ensures.kept c.in_err-read-in-Waiting.ensures.err)

pub returns-then-branch-eq0-clause-running : goal.returns-then-branch-eq0-clause-running
returns-then-branch-eq0-clause-running g c = λ start past running.
    running-more (running-sound (c.in_ok-take_one.ensures.running start past (g.R.Source.left c.request.reader)
    (g.W.Sink.written c.request.writer) (c.request.invariant.running start past running)))
    c.flush.ensures.bytes c.in_ok-read-in-Waiting.ensures.ok

pub request-preserved : goal.request-preserved
request-preserved g c =
    let some : 0 < c.in_ok-read-in-Waiting.field-0 = omega arith in
    let less =
    ahead-falls (g.R.Source.reads_left c.request.reader) (g.R.Source.reads_left c.read.new.reader) c.request.input
    c.read.new.self (c.in_ok-read-in-Waiting.ensures.falls some) c.read.ensures.fits in
    record {
      running = λ start past running.
          running-more (running-sound (c.in_ok-take_one.ensures.running start past (g.R.Source.left c.request.reader)
          (g.W.Sink.written c.request.writer) (c.request.invariant.running start past running)))
          c.flush.ensures.bytes c.in_ok-read-in-Waiting.ensures.ok;
      logging = c.in_ok-take_one.ensures.logging;
      never_rises = omega (arith, less, c.request.invariant.never_rises);
      reader_sound = c.in_ok-read-in-Waiting.ensures.counts ∙ c.request.invariant.reader_sound;
      writer_sound = c.in_ok-flush-in-Waiting.ensures.counts ∙ c.request.invariant.writer_sound;
      log_sound = c.in_ok-take_one.ensures.counts ∙ c.request.invariant.log_sound;
    }
