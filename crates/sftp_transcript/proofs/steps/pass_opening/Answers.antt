-- Where the bytes ahead begin with the opening, so do the bytes held.
use Rattle.sftp_transcript.proofs.Imports.{err_from_is_err_and, bytes_ahead, HasAhead}
use Rattle.sftp_transcript.proofs.Fronts.{opening_fault}
use Rattle.sftp_streams.proofs.Buffers.{known_kept}
use Rattle.sftp_transcript.proofs.steps.pass_opening.Goals as goal

pub returns-in_err-left-clause-first : goal.returns-in_err-left-clause-first
returns-in_err-left-clause-first g c = λ before known.
    let m = c.fill_opening.new.self in
    let now : HasAhead m before =
    known_kept (bytes_ahead c.args.input.now) (bytes_ahead m) before c.fill_opening.ensures.same.bytes known in
    let p = err_from_is_err_and c.from_residual-in_err-left.result c.from_residual-in_err-left.ensures.1 in
    rw (p.1, p.2)
    (opening_fault m before c.in_err-left.field-0.0 now c.in_ok-fill_opening.ensures.whole c.in_err-left.ensures.refused
    (λ rest held. c.in_err-left.ensures.none rest (rw c.held.ensures held)))
