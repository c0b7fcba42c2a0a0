-- A batch: requests are taken, then done and answered; what comes after it leads on, or to the end.
use Rattle.sftp_server.proofs.Imports.{subst, ◌∙◌, err_from_is_err_and, fault_of, stream_bytes}
use Rattle.sftp_server.specs.Ending.{IsNext}
use Rattle.sftp_server.specs.declared.serving.Next.{Next}
use Rattle.sftp_server.proofs.serving.serve_requests.Goals as goal

pub returns-in_err-work_off-clause-running : goal.returns-in_err-work_off-clause-running
returns-in_err-work_off-clause-running g c =
    let p = err_from_is_err_and c.from_residual-in_err-work_off.result c.from_residual-in_err-work_off.ensures.1 in
    let left = g.R.Source.left c.batch.reader in
    let written = g.W.Sink.written c.batch.writer in
    rw (p.1, p.2) (λ start past running.
    c.in_err-work_off.ensures.running start past left c.take_requests.new.input (fault_of c.in_ok-front.front)
    (c.in_ok-front.ensures.running start past left written (c.batch.invariant.running start past running)))

pub returns-in_err-after_batch-clause-running : goal.returns-in_err-after_batch-clause-running
returns-in_err-after_batch-clause-running g c =
    let p =
    err_from_is_err_and c.from_residual-in_err-after_batch.result c.from_residual-in_err-after_batch.ensures.1 in
    let left = g.R.Source.left c.batch.reader in
    let written = g.W.Sink.written c.batch.writer in
    rw (p.1, p.2) (λ start past running.
    c.in_err-after_batch.ensures.running start past c.work_off.new.core
    (c.in_ok-work_off.ensures.running start past left c.take_requests.new.input (fault_of c.in_ok-front.front)
    (c.in_ok-front.ensures.running start past left written (c.batch.invariant.running start past running)))
    c.in_ok-work_off.ensures.answered)

pub returns-in-End-clause-running : goal.returns-in-End-clause-running
returns-in-End-clause-running g c = λ start past running.
    let left = g.R.Source.left c.batch.reader in
    let written = g.W.Sink.written c.batch.writer in
    let now =
    stream_bytes (g.R.Source.left c.after_batch.new.reader) (g.W.Sink.written c.after_batch.new.writer)
    c.after_batch.new.log.bytes in
    subst (λ (next : Next). IsNext start past now c.after_batch.new.input c.work_off.new.core next) c.in-End.is
    (c.in_ok-after_batch.ensures.running start past c.work_off.new.core
    (c.in_ok-work_off.ensures.running start past left c.take_requests.new.input (fault_of c.in_ok-front.front)
    (c.in_ok-front.ensures.running start past left written (c.batch.invariant.running start past running)))
    c.in_ok-work_off.ensures.answered)

pub batch-preserved : goal.batch-preserved
batch-preserved g c =
    let left = g.R.Source.left c.batch.reader in
    let written = g.W.Sink.written c.batch.writer in
    let now =
    stream_bytes (g.R.Source.left c.after_batch.new.reader) (g.W.Sink.written c.after_batch.new.writer)
    c.after_batch.new.log.bytes in
    let did = c.in_ok-work_off.ensures in
    let after = c.in_ok-after_batch.ensures in
    record {
      running = λ start past running.
          subst (λ (next : Next). IsNext start past now c.after_batch.new.input c.work_off.new.core next) c.in-Batch.is
          (after.running start past c.work_off.new.core
          (did.running start past left c.take_requests.new.input (fault_of c.in_ok-front.front)
          (c.in_ok-front.ensures.running start past left written (c.batch.invariant.running start past running)))
          did.answered);
      logging = after.logging;
      answered = did.answered;
      reader_sound = after.counts_reader ∙ c.batch.invariant.reader_sound;
      writer_sound = after.counts_writer ∙ (did.counts_writer ∙ c.batch.invariant.writer_sound);
      log_sound =
          after.counts_log ∙ (did.counts_log ∙ (c.in_ok-front.ensures.counts ∙ c.batch.invariant.log_sound));
    }
