-- Where a record is held in part, the loop goes on until nothing is left.
use Rattle.sftp_transcript.proofs.Imports.{ap, length, arith}
use Rattle.sftp_transcript.proofs.input.Input.fill_record.Goals as goal

pub returns-clause-part : goal.returns-clause-part
returns-clause-part g c = λ side part.
    let short = c.record_length.ensures.part side (rw c.held-in-fill.ensures part) in
    absurd (omega (arith, short, c.fill-test.false, ap length c.held.ensures, ap length c.held-in-fill.ensures))
