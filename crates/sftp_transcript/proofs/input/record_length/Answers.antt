-- The number after the direction says how long the record is.
use Rattle.sftp_transcript.proofs.Imports.{rules, arith}
use Rattle.sftp_transcript.proofs.Fronts.{part_is_short}
use Rattle.sftp_transcript.proofs.input.record_length.Goals as goal

pub returns-then-length-gt-RECORD_LIMIT-clause-part : goal.returns-then-length-gt-RECORD_LIMIT-clause-part
returns-then-length-gt-RECORD_LIMIT-clause-part c = λ side part.
    let short = part_is_short side c.args.held.now c.in-Some.field-0-0.now c.in-Some-take_number.size
    c.in-Some-take_number.field-0-1.now (search rules) (search rules) part in
    grind (arith, short.0, short.1)

pub returns-else-length-gt-RECORD_LIMIT-clause-part : goal.returns-else-length-gt-RECORD_LIMIT-clause-part
returns-else-length-gt-RECORD_LIMIT-clause-part c = λ side part.
    let short = part_is_short side c.args.held.now c.in-Some.field-0-0.now c.in-Some-take_number.size
    c.in-Some-take_number.field-0-1.now (search rules) (search rules) part in
    grind (arith, short.0, short.1)
