-- Where a part of the frame fails, a beginning of the whole is written.
use Rattle.std.proofs.Common.{length}
use Rattle.sftp_strings.specs.Strings.{uint32, string}
use Rattle.sftp_streams.proofs.Buffers.{on_err, AppendsPart-first, AppendsPart-then}
use Rattle.sftp_frames.proofs.writing.put_frame.Goals as goal

pub returns-in_err-put_all-clause-err : goal.returns-in_err-put_all-clause-err
returns-in_err-put_all-clause-err g c =
    on_err c.from_residual.result
    (AppendsPart-first _ _ (uint32 c.args.client) (string c.args.bytes.now) (rw (← c.to_be_bytes.ensures) c.in_err-put_all.ensures.err))

pub returns-in_err-put_all-2-clause-err : goal.returns-in_err-put_all-2-clause-err
returns-in_err-put_all-2-clause-err g c =
    let client = uint32 c.args.client in
    let bytes = c.args.bytes.now in
    on_err c.from_residual-in_err-put_all-2.result
    (AppendsPart-then _ (g.W.Sink.written c.put_all.new.sink) _ client (string bytes) (rw (← c.to_be_bytes.ensures) c.in_ok-put_all.ensures.ok) (AppendsPart-first _ _ (uint32 (length bytes)) bytes (rw (← c.to_be_bytes-2.ensures) c.in_err-put_all-2.ensures.err)))

pub returns-in_err-put_all-3-clause-err : goal.returns-in_err-put_all-3-clause-err
returns-in_err-put_all-3-clause-err g c =
    let client = uint32 c.args.client in
    let bytes = c.args.bytes.now in
    on_err c.from_residual-in_err-put_all-3.result
    (AppendsPart-then _ (g.W.Sink.written c.put_all.new.sink) _ client (string bytes) (rw (← c.to_be_bytes.ensures) c.in_ok-put_all.ensures.ok) (AppendsPart-then _ (g.W.Sink.written c.put_all-2.new.sink) _ (uint32 (length bytes)) bytes (rw (← c.to_be_bytes-2.ensures) c.in_ok-put_all-2.ensures.ok) c.in_err-put_all-3.ensures.err))
