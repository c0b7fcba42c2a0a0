-- Where a part of the record fails, a beginning of the whole is written.
use Rattle.sftp_transcript.proofs.Imports.{[], ◌∷◌, direction_of}
use Rattle.sftp_transcript.specs.Log.{opening_before}
use Rattle.sftp_streams.proofs.Buffers.{on_err, AppendsPart-first, AppendsPart-then}
use Rattle.sftp_transcript.proofs.writer.put_record.Goals as goal

pub returns-in_err-put_all-clause-err : goal.returns-in_err-put_all-clause-err
returns-in_err-put_all-clause-err g c =
    on_err c.from_residual.result
    (AppendsPart-first _ _ (opening_before c.args.records) (direction_of c.args.side ∷ c.args.spelled.now) (rw (← c.opening.ensures) c.in_err-put_all.ensures.err))

pub returns-in_err-put_all-2-clause-err : goal.returns-in_err-put_all-2-clause-err
returns-in_err-put_all-2-clause-err g c =
    let opening = opening_before c.args.records in
    let direction = direction_of c.args.side ∷ [] in
    let spelled = c.args.spelled.now in
    on_err c.from_residual-in_err-put_all-2.result
    (AppendsPart-then _ (g.L.Sink.written c.put_all.new.sink) _ opening (direction_of c.args.side ∷ spelled) (rw (← c.opening.ensures) c.in_ok-put_all.ensures.ok) (AppendsPart-first _ _ direction spelled (rw (← c.direction.ensures) c.in_err-put_all-2.ensures.err)))

pub returns-in_err-put_all-3-clause-err : goal.returns-in_err-put_all-3-clause-err
returns-in_err-put_all-3-clause-err g c =
    let opening = opening_before c.args.records in
    let direction = direction_of c.args.side ∷ [] in
    let spelled = c.args.spelled.now in
    on_err c.from_residual-in_err-put_all-3.result
    (AppendsPart-then _ (g.L.Sink.written c.put_all.new.sink) _ opening (direction_of c.args.side ∷ spelled) (rw (← c.opening.ensures) c.in_ok-put_all.ensures.ok) (AppendsPart-then _ (g.L.Sink.written c.put_all-2.new.sink) _ direction spelled (rw (← c.direction.ensures) c.in_ok-put_all-2.ensures.ok) c.in_err-put_all-3.ensures.err))
