-- Where a block fails, a beginning of the zeros is written.
use Rattle.std.proofs.Common.{ℕ, ◌∙◌, arith, replicate}
use Rattle.sftp_streams.proofs.Buffers.{on_err}
use Rattle.sftp_contents.proofs.Sinks.{written-more, failed-within, next-zeros}
use Rattle.sftp_contents.proofs.sending.send_zeros.Goals as goal

pub returns-in_err-put_all-clause-err : goal.returns-in_err-put_all-clause-err
returns-in_err-put_all-clause-err g c =
    on_err c.from_residual.result
    (failed-within (g.L.Sink.written c.args.sink.now) (g.L.Sink.written c.zeros.sink) (g.L.Sink.written c.put_all.new.sink)
    (replicate {A = ℕ} c.args.count 0) _ c.zeros.done c.min-here.result c.zeros.invariant.done
    c.in_err-put_all.ensures.err
    (next-zeros 4096 c.args.count c.zeros.done c.min-here.result (omega arith) (omega arith)))

pub zeros-preserved : goal.zeros-preserved
zeros-preserved g c = record {
  done = written-more (g.L.Sink.written c.args.sink.now) (g.L.Sink.written c.zeros.sink)
      (g.L.Sink.written c.put_all.new.sink) (replicate {A = ℕ} c.args.count 0) _ c.zeros.done c.min-here.result
      c.zeros.invariant.done c.in_ok-put_all.ensures.ok
      (next-zeros 4096 c.args.count c.zeros.done c.min-here.result (omega arith) (omega arith));
  none_failed = c.in_ok-put_all.ensures.counts ∙ c.zeros.invariant.none_failed;
  few = omega arith;
}
