-- Where a part fails, a beginning of the bytes is written.
use Rattle.std.proofs.Common.{◌≡◌, ℕ, ◌∙◌, ap, subst, arith}
use Rattle.std.specs.Io.KnownBytes.{Appends}
use Rattle.sftp_streams.proofs.Buffers.{on_err}
use Rattle.sftp_contents.specs.Parts.{bytes_in, count_in}
use Rattle.sftp_contents.proofs.Sinks.{written-more, failed-within}
use Rattle.sftp_contents.proofs.sending.send.Goals as goal

pub returns-in_err-send_part-clause-err : goal.returns-in_err-send_part-clause-err
returns-in_err-send_part-clause-err g c =
    on_err c.from_residual.result
    (failed-within (g.L.Sink.written c.args.sink.now) (g.L.Sink.written c.parts.sink) (g.L.Sink.written c.send_part.new.sink)
    c.args.content.now (bytes_in c.part_at-part.result) c.parts.done (count_in c.part_at-part.result)
    c.parts.invariant.done c.in_err-send_part.ensures.err c.part_at-part.ensures.bytes)

pub parts-preserved : goal.parts-preserved
parts-preserved g c =
    let n : c.count_of-done.result ≡ count_in c.part_at-part.result = c.count_of-done.ensures in
    record {
      done = rw n (written-more (g.L.Sink.written c.args.sink.now) (g.L.Sink.written c.parts.sink)
          (g.L.Sink.written c.send_part.new.sink) c.args.content.now (bytes_in c.part_at-part.result) c.parts.done
          (count_in c.part_at-part.result) c.parts.invariant.done c.in_ok-send_part.ensures.ok
          c.part_at-part.ensures.bytes);
      none_failed = c.in_ok-send_part.ensures.counts ∙ c.parts.invariant.none_failed;
      few = omega arith;
    }
